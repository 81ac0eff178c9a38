-- What the events of a run ask, as a history: the laws of `run` speak of it (this project's definition).
use Rattle.std.specs.Prelude.{◌≡◌, ◌∷◌, ℕ, List, [], take, Option, Some, map, Result, Ok, Err, Vec}
use Rattle.broker_model.specs.Words.{option_map_or, Global, Broker, Fault, Kept, IsHonestStore}
use Rattle.histories.specs.Words.{Asking, History}
use Rattle.hub.specs.Asking.{EventAsks, IsReplyTo}
use Rattle.hub.specs.Representing.{HubRepresents, hub_store}
use Rattle.hub.specs.World.{Next, World}
use Rattle.hub.specs.declared.event.Event.{Event}
use Rattle.hub.specs.declared.hub.Hub.{Hub}

-- ---- what the events of a run asked

-- The event asked this, at its moment and with its words, or nothing; these bytes are the reply to it, and this is the
-- world after it.
pub record EventAsked (w : World) (e : Event) (bytes : List ℕ) (asking : Option Asking) (after : World) : Type 0 where
  pub next : Next w e bytes after
  pub asks : EventAsks w e asking
  pub timed : (a : Asking) → asking ≡ Some a → (a.moment ≡ e.moment) × (a.words ≡ e.words)
  pub reply : IsReplyTo asking e.moment bytes
  pub broker : after.broker ≡ option_map_or (λ (a : Asking). a.outcome.next) asking w.broker

-- the events asked these, one an event, in their order
abbrev pub EventsAsked : World → List Event → List (List ℕ) → History → World → Type 0
EventsAsked w [] [] [] after = after ≡ w
EventsAsked w (e ∷ es) (bytes ∷ replies) (asking ∷ history) after =
    (mid : World) × EventAsked w e bytes asking mid × EventsAsked mid es replies history after
EventsAsked w _ _ _ after = ⊥

-- ---- laws of that

-- the law holds of what the events asked, with these replies
abbrev pub RunKeeps : World → List Event → List (List ℕ) → (History → Type 0) → Type 0
RunKeeps w events replies Law =
    (history : History) × (after : World) × EventsAsked w events replies history after × Law history

-- the replies, as lists of bytes
abbrev pub reply_bytes : Vec (Vec ℕ Global) Global → List (List ℕ)
reply_bytes replies = map (λ reply. reply.items) replies.items

-- the law holds of what the events asked that were answered: all of them, or those before a fault
abbrev pub AnsweredKeep : World → List Event
    → Result (Vec (Vec ℕ Global) Global) (ℕ × Vec (Vec ℕ Global) Global × Fault) → (History → Type 0) → Type 0
AnsweredKeep w events (Ok replies) Law = RunKeeps w events (reply_bytes replies) Law
AnsweredKeep w events (Err stop) Law = RunKeeps w (take stop.0 events) (reply_bytes stop.1) Law

-- From a hub that represents any world, the law holds from the world's broker on, as long as the storage returned what
-- was written.
abbrev pub Lawful : {S : Type 0} → (S → Kept) → Hub S → Hub S → List Event
    → Result (Vec (Vec ℕ Global) Global) (ℕ × Vec (Vec ℕ Global) Global × Fault) → (Broker → History → Type 0) → Type 0
Lawful seen old new events result Law =
    IsHonestStore (hub_store seen new) → (w : World) → HubRepresents seen old w
    → AnsweredKeep w events result (Law w.broker)
