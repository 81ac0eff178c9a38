-- What a clock and a source of words give to events, one after another (this project's definition).
use Rattle.std.specs.Prelude.{◌≡◌, ◌∷◌, ℕ, List, [], map}
use Rattle.broker_model.specs.Words.{Words}
use Rattle.hub.specs.declared.event.Event.{Event}

-- Calls from the state s on gave the values in their order, one a call, and left the state t. What one call may give is
-- said by `gives`, of the state before it, the value, and the state after it.
abbrev pub GivesInTurn : {S A : Type 0} → (S → A → S → Type 0) → S → S → List A → Type 0
GivesInTurn gives s t [] = t ≡ s
GivesInTurn {S} gives s t (value ∷ values) = (mid : S) × gives s value mid × GivesInTurn gives mid t values

-- The moment of each event is what one call of a clock told, and its words are what one call of a source of words gave.
-- There was one call of each for each event, in the order of the events, from the states before them to those after.
pub record Supplies {C D : Type 0} (may_tell : C → ℕ → C → Type 0) (clock clock_after : C)
    (may_give : D → Words → D → Type 0) (words words_after : D) (events : List Event) : Type 0 where
  pub moments : GivesInTurn may_tell clock clock_after (map (λ e. e.moment) events)
  pub drawings : GivesInTurn may_give words words_after (map (λ e. e.words) events)
