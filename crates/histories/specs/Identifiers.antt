-- The law that no identifier is given out twice, as a statement (this project's).
use Rattle.std.specs.Prelude.{◌≡◌, ◌⊎◌, ◌∷◌}
use Rattle.broker_types.specs.Words.{take, list_any, id, AllUsed, IsUsed, identifier_at, Place}
use Rattle.histories.specs.Common.{ℕ, true, Some, IsDistinct, Text, same, get, Broker, Waiting, IsNew}
use Rattle.histories.specs.History.{Asking, AskedAt, Beginning, History, clocked, given_out}

-- the identifier was in the place before the event, and at its clock still
abbrev pub WasThere : Asking → Place → Text → Type 0
WasThere x p i = (identifier_at x.broker p ≡ Some i) × (identifier_at (clocked x) p ≡ Some i)

-- Each identifier in a place of the broker was given out, and so was each origin of a response that waits.
pub record AreUsed (b : Broker) : Type 0 where
  pub places : AllUsed b
  pub origins : (t : Text) (w : Waiting) → get b.waiting t ≡ Some w → IsUsed b w.origin

-- Each identifier in a place of the broker that an event left (of a token, an accessor, a lease, a credential, a
-- wrapping token or its accessor) was in that place before it and at its clock, or is one that the event gave out.
abbrev pub EachIsTold : History → Type 0
EachIsTold history =
    (j : ℕ) (x : Asking) (p : Place) (i : Text) → AskedAt history j x → identifier_at x.outcome.next p ≡ Some i
    → WasThere x p i ⊎ (list_any (same i) x.outcome.taken ≡ true)

-- From the broker b on, the identifiers that the events give out are new, and no two of them are equal.
pub record GivesOutNew (b : Broker) (history : History) : Type 0 where
  -- all that the events gave out, one after another, differ
  pub once : IsDistinct same (given_out history)
  -- and none of them had been given out before
  pub unused : (i : Text) → list_any (same i) (given_out history) ≡ true → IsNew b i
  -- Nothing else is given out, not even again: what is in a place after an event, and was not in that place before, is
  -- one of those that this event gave out.
  pub each : EachIsTold history
  -- And each identifier in a place of a broker that is asked was given out before b, or is one that an earlier event
  -- gave out.
  pub all : (j : ℕ) (x : Asking) (p : Place) (i : Text) → AskedAt history j x → identifier_at x.broker p ≡ Some i
      → IsUsed b i ⊎ (list_any (same i) (given_out (take j history)) ≡ true)

-- From a start on, no identifier is given out twice.
pub record NoIdentifierTwice (s : Beginning) (history : History) : Type 0 where
  -- the two of the start and those that all events gave out, one after another, differ
  pub once : IsDistinct same (id s.accessor_word ∷ id s.token_word ∷ given_out history)
  -- nothing else is given out, not even again: what is in a place after an event, and was not in that place before, is
  -- one of those that this event gave out
  pub each : EachIsTold history
  -- and each identifier in a place of a broker that is asked is one of the two, or one that an earlier event gave out
  pub all : (j : ℕ) (x : Asking) (p : Place) (i : Text) → AskedAt history j x → identifier_at x.broker p ≡ Some i
      → list_any (same i) (id s.accessor_word ∷ id s.token_word ∷ given_out (take j history)) ≡ true
