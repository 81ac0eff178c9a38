-- Rows that a reader does not read are those of no record.
use Rattle.std.proofs.Common.{◌≡◌, Bool, true, false, Result, Ok, Err, MatchResult, sym, ◌∙◌, ap, subst}
use Rattle.records.specs.Words.{false≢true, Fault, Memory, Damaged, Reads, ReadsWithMemory}
use Rattle.records.specs.declared.row.Row.{Row}

is_ok : {X E : Type 0} → Result X E → Bool
is_ok (Ok x) = true
is_ok (Err e) = false

is_damaged : Fault → Bool
is_damaged Damaged = true
is_damaged _ = false

module _ {X : Type 0} (R : X → Type 0) (row_of : X → Row) (row : Row) (result : Result X Fault) where
  pub unread : Reads R row_of row result → (e : Fault) → result ≡ Err e → (x : X) → R x → row ≡ row_of x → ⊥
  unfolding is_ok
  unread reads e is x in_range of = false≢true (ap is_ok (sym is ∙ reads.again x in_range of))

  -- one that takes memory
  pub damaged_unread : ReadsWithMemory R row_of row result → result ≡ Err Damaged → (x : X) → R x → row ≡ row_of x
      → ⊥
  unfolding is_damaged
  damaged_unread reads is x in_range of =
      let so : MatchResult (Err Damaged) (λ y. y ≡ x) (λ e. e ≡ Memory) =
      subst (λ r. MatchResult r (λ y. y ≡ x) (λ e. e ≡ Memory)) is (reads.again x in_range of) in
      false≢true (ap is_damaged (sym so))
