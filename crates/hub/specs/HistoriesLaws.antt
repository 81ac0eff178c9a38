-- What a run's history left, and histories that come one after another: lemmas for proofs here and above.
use Rattle.std.proofs.Common.{◌≡◌, ◌∷◌, ◌++◌, List, [], ℕ, Option, Some, None, refl, sym, ◌∙◌, ap, subst}
use Rattle.broker_model.specs.Words.{option_map_or, Broker}
use Rattle.histories.specs.Words.{AreAsked, Asking, History, left_by}
use Rattle.hub.specs.Histories.{EventsAsked}
use Rattle.hub.specs.World.{World}
use Rattle.hub.specs.declared.event.Event.{Event}

-- ---- what the events of a run left

-- the broker after an event, and what was left then
pub left_after : (b : Broker) (asking : Option Asking) (hs : History)
    → left_by (option_map_or (λ (a : Asking). a.outcome.next) asking b) hs ≡ left_by b (asking ∷ hs)
left_after b None hs = refl
left_after b (Some a) hs = refl

-- the world's broker is what the history left
pub run_left : (w : World) (es : List Event) (rs : List (List ℕ)) (hs : History) (after : World)
    → EventsAsked w es rs hs after → after.broker ≡ left_by w.broker hs
run_left w [] [] [] after run = ap (λ (v : World). v.broker) run
run_left w [] [] (h ∷ hs) after run = absurd run
run_left w [] (r ∷ rs) hs after run = absurd run
run_left w (e ∷ es) [] hs after run = absurd run
run_left w (e ∷ es) (r ∷ rs) [] after run = absurd run
run_left w (e ∷ es) (r ∷ rs) (h ∷ hs) after (mid, one, run) =
    run_left mid es rs hs after run ∙ ap (λ b. left_by b hs) one.broker ∙ left_after w.broker h hs

-- ---- one history after another

AreAsked-append : (b : Broker) (hs ks : History) → AreAsked b hs → AreAsked (left_by b hs) ks → AreAsked b (hs ++ ks)
AreAsked-append b [] ks h k = k
AreAsked-append b (None ∷ hs) ks h k = AreAsked-append b hs ks h k
AreAsked-append b (Some x ∷ hs) ks (first, h) k = (first, AreAsked-append x.outcome.next hs ks h k)

left_by-append : (b : Broker) (hs ks : History) → left_by b (hs ++ ks) ≡ left_by (left_by b hs) ks
left_by-append b [] ks = refl
left_by-append b (None ∷ hs) ks = left_by-append b hs ks
left_by-append b (Some x ∷ hs) ks = left_by-append x.outcome.next hs ks

-- what was asked of the broker that a history left was asked after that history
pub asked_on : (b mid : Broker) (hs ks : History) → mid ≡ left_by b hs → AreAsked b hs → AreAsked mid ks
    → AreAsked b (hs ++ ks)
asked_on b mid hs ks left first second = AreAsked-append b hs ks first
    (subst (λ (c : Broker). AreAsked c ks) left second)

-- and left what both did
pub left_on : (b mid after : Broker) (hs ks : History) → mid ≡ left_by b hs → after ≡ left_by mid ks
    → after ≡ left_by b (hs ++ ks)
left_on b mid after hs ks first second = second ∙ ap (λ (c : Broker). left_by c ks) first ∙ sym (left_by-append b hs ks)
