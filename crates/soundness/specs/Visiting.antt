-- What a walk over rows knows of those that it has passed (this project's definition).
use Rattle.std.specs.Prelude.{◌≡◌, ◌⊎◌, ℕ, [], true, ⊤, Option, Some, Result, IfOk, IfNone}
use Rattle.std.specs.BTreeMap as tree
use Rattle.broker_model.specs.Words.{BTreeMap, BTreeSet, nat_cmp, Text, token_text, id, Waiting, Fault, Kind, Row}
use Rattle.broker_model.specs.Words.{RowKey, IsWaitingInRange, waiting_row, Table}
use Rattle.std.specs.BTreeSet as set
use Rattle.records.specs.declared.kind.Kind.TheVariants as kind
use Rattle.soundness.specs.RowRules.{IsOf, IsSoundAt}
use Rattle.soundness.specs.SoundRows.{Places, IsHad, HasItsIdentifier, Ends}

-- a test answers that no rule is broken only if P holds
abbrev pub Finds : {B : Type 0} → Result (Option B) Fault → Type 0 → Type 0
Finds result P = IfOk result (λ broken. IfNone broken P)

-- ---- rows by the words of their identifiers

-- the rows in a map by words
abbrev pub noted : BTreeMap ℕ RowKey → Places
noted m = λ word. tree.get nat_cmp m word

-- each row that was noted still is
abbrev pub Grows : Places → Places → Type 0
Grows old new = (word : ℕ) (key : RowKey) → old word ≡ Some key → new word ≡ Some key

-- the response at the key is the one that has its origin, if the row is one of a response
abbrev pub HasItsOrigin : Table → Places → Kind → Text → Row → Type 0
HasItsOrigin rows places kind.Waiting q row =
    IsOf waiting_row (λ (w : Waiting). IsWaitingInRange w × IsHad rows places (kind.Waiting, q) w.origin) row
HasItsOrigin rows places _ q row = ⊤

-- ---- tokens by their words

-- the chain of parents ends of each token whose word is in the set
abbrev pub EachEnds : Table → BTreeSet ℕ → Type 0
EachEnds rows words = (word : ℕ) → set.contains nat_cmp words word ≡ true → Ends rows (token_text (id word))

-- no owner, or a token whose chain of parents ends: so do those of its children
abbrev pub IsAbove : Table → Text → Type 0
IsAbove rows t = (t ≡ []) ⊎ Ends rows t

-- the chain of parents of the token at the key ends, if the row is one of a token
abbrev pub HasItsEnd : Table → Kind → Text → Type 0
HasItsEnd rows kind.Token q = Ends rows q
HasItsEnd rows _ q = ⊤

-- ---- rows that were passed

pub record IsPassed (rows : Table) (identifiers origins : Places) (e : RowKey × Row) : Type 0 where
  pub sound : IsSoundAt rows e.0.0 e.0.1 e.1
  pub identifier : HasItsIdentifier rows identifiers e.0.0 e.0.1
  pub origin : HasItsOrigin rows origins e.0.0 e.0.1 e.1
  pub chain : HasItsEnd rows e.0.0 e.0.1
