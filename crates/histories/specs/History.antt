-- Histories: what the events of a run ask of the broker, one after another (this project's definition).
use Rattle.std.specs.Prelude.{◌≡◌, ◌≢◌, ◌<◌, ◌≤◌, ◌^◌, ◌∷◌}
use Rattle.broker_model.specs.Words.{flat_map, greatest_moment, first_broker, Sound, forms}
use Rattle.histories.specs.Common.{ℕ, List, [], Option, Some, None, slice_index_or, ⊤, option_map_or, Text, Broker}
use Rattle.histories.specs.Common.{at_moment, spend, Ask, Words, Outcome, step}

-- ---- what is asked

-- what was asked of a broker in this state, at this moment, with these words, and the whole outcome
pub record Asking : Type 0 where
  pub broker : Broker
  pub moment : ℕ
  pub words : Words
  pub ask : Ask
  pub outcome : Outcome

-- the broker at the clock of the request
abbrev pub clocked : Asking → Broker
clocked a = at_moment a.broker a.moment

-- and with the use that its caller c has spent
abbrev pub spent_by : Asking → Text → Broker
spent_by a c = spend (clocked a) c

-- ---- one after another

-- what each event asked, or nothing
abbrev pub History : Type 0
History = List (Option Asking)

-- the event at the place asked this
abbrev pub AskedAt : History → ℕ → Asking → Type 0
AskedAt history i a = slice_index_or history i None ≡ Some a

-- it was asked of the sound broker b, and the outcome is that of its step
pub record IsAsked (b : Broker) (a : Asking) : Type 0 where
  pub broker : a.broker ≡ b
  pub sound : Sound forms None b
  pub outcome : a.outcome ≡ step b a.moment a.words a.ask

-- the first request was asked of b, and each other of the broker that the one before it left
abbrev pub AreAsked : Broker → History → Type 0
AreAsked b [] = ⊤
AreAsked b (None ∷ later) = AreAsked b later
AreAsked b (Some a ∷ later) = IsAsked b a × AreAsked a.outcome.next later

-- the broker that the requests left, from b on
abbrev pub left_by : Broker → History → Broker
left_by b [] = b
left_by b (None ∷ later) = left_by b later
left_by b (Some a ∷ later) = left_by a.outcome.next later

-- ---- of any brokers

-- it was asked of the broker b, sound or not, and the outcome is that of its step
pub record IsStep (b : Broker) (a : Asking) : Type 0 where
  pub broker : a.broker ≡ b
  pub outcome : a.outcome ≡ step b a.moment a.words a.ask

-- the first request was asked of b, and each other of the broker that the one before it left
abbrev pub AreSteps : Broker → History → Type 0
AreSteps b [] = ⊤
AreSteps b (None ∷ later) = AreSteps b later
AreSteps b (Some a ∷ later) = IsStep b a × AreSteps a.outcome.next later

-- ---- what is given out

-- the identifiers that an event gave out
abbrev pub taken_by : Option Asking → List Text
taken_by asking = option_map_or (λ (a : Asking). a.outcome.taken) asking []

-- the identifiers that the events gave out, in their order
abbrev pub given_out : History → List Text
given_out = flat_map taken_by

-- ---- the start

-- what a start is made of: an accepted moment, and two different words
pub record Beginning : Type 0 where
  pub moment : ℕ
  pub token_word : ℕ
  pub accessor_word : ℕ
  pub accepted : moment ≤ greatest_moment
  pub token_fits : token_word < 2 ^ 128
  pub accessor_fits : accessor_word < 2 ^ 128
  pub differ : token_word ≢ accessor_word

-- the broker that it makes
abbrev pub begun : Beginning → Broker
begun s = first_broker s.moment s.token_word s.accessor_word
