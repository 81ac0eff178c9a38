-- Rows that a reader does not read are in no format of their kind, and what tests answer.
use Rattle.std.proofs.Common.{◌≡◌, ◌<◌, ◌≤◌, Bool, true, false, Option, Some, None, is_some, Result, Ok, Err, ℕ, is_err}
use Rattle.broker_model.specs.Words.{MatchResult, ⊤, refl, sym, ◌∙◌, ap, subst, arith, false≢true, Text, same}
use Rattle.broker_model.specs.Words.{same_self, Lease, IsShortText, Fault, Memory, Damaged, Holder, Row, IsLeaseInRange}
use Rattle.broker_model.specs.Words.{Reads, ReadsWithMemory, accessor_row, cubby_row, lease_row, credential_row}
use Rattle.soundness.specs.Words.{IsOf, Named, Owned, Held}

is_ok : {X E : Type 0} → Result X E → Bool
is_ok (Ok x) = true
is_ok (Err e) = false

is_damaged : Fault → Bool
is_damaged Damaged = true
is_damaged _ = false

-- an answer is no error
pub ok_err : {X E : Type 0} (r : Result X E) (x : X) (e : E) → r ≡ Ok x → r ≡ Err e → ⊥
unfolding is_ok
ok_err r x e ok err = false≢true (ap is_ok (sym err ∙ ok))

module _ {X : Type 0} (R : X → Type 0) (row_of : X → Row) (row : Row) (result : Result X Fault) where
  -- a row that is not read is that of no record
  pub unread : Reads R row_of row result → (e : Fault) → result ≡ Err e → IsOf row_of R row → ⊥
  unread reads e is x = ok_err result x.0 e (reads.again x.0 x.1 x.2) is

  -- nor is one that is damaged
  pub damaged_unread : ReadsWithMemory R row_of row result → result ≡ Err Damaged → IsOf row_of R row → ⊥
  unfolding is_damaged
  damaged_unread reads is x =
      let so : MatchResult (Err Damaged) (λ y. y ≡ x.0) (λ e. e ≡ Memory) =
      subst (λ r. MatchResult r (λ y. y ≡ x.0) (λ e. e ≡ Memory)) is (reads.again x.0 x.1 x.2) in
      false≢true (ap is_damaged (sym so))

pub owner_of : (r s : Row) → r ≡ s → r.owner ≡ s.owner
owner_of r s is = ap (λ (x : Row). x.owner) is

-- a row is that of its owner
pub lease_unread : (row : Row) (result : Result Lease Fault) → Reads IsLeaseInRange (lease_row row.owner) row result
    → (e : Fault) → result ≡ Err e → IsOf (λ (h : Held). lease_row h.0 h.1) (λ h. IsLeaseInRange h.1) row → ⊥
lease_unread row result reads e is h =
    unread IsLeaseInRange (lease_row row.owner) row result reads e is
    (h.0.1, h.1, h.2 ∙ ap (λ t. lease_row t h.0.1) (sym (owner_of _ _ h.2)))

pub object_unread : (row : Row) (result : Result Text Fault) → Reads IsShortText (cubby_row row.owner) row result
    → (e : Fault) → result ≡ Err e → IsOf (λ (e : Owned). cubby_row e.0 e.1) (λ e. IsShortText e.1) row → ⊥
object_unread row result reads e is o =
    unread IsShortText (cubby_row row.owner) row result reads e is
    (o.0.1, o.1, o.2 ∙ ap (λ t. cubby_row t o.0.1) (sym (owner_of _ _ o.2)))

pub accessor_unread : (row : Row) (result : Result Holder Fault) → Reads (λ _. ⊤) (accessor_row row.owner) row result
    → (e : Fault) → result ≡ Err e → IsOf (λ (n : Named). accessor_row n.0 n.1) (λ _. ⊤) row → ⊥
accessor_unread row result reads e is n =
    unread (λ _. ⊤) (accessor_row row.owner) row result reads e is
    (n.0.1, tt, n.2 ∙ ap (λ t. accessor_row t n.0.1) (sym (owner_of _ _ n.2)))

pub credential_unread : {X : Type 0} (row : Row) (result : Result X Fault) → (X)
    → Reads (λ (_ : X). ⊤) (λ _. credential_row row.owner) row result
    → (e : Fault) → result ≡ Err e → IsOf credential_row (λ _. ⊤) row → ⊥
credential_unread row result x reads e is l =
    unread (λ _. ⊤) (λ _. credential_row row.owner) row result reads e is
    (x, tt, l.2 ∙ ap credential_row (sym (owner_of _ _ l.2)))

-- a row that is read is the credential of its owner
pub credential_of_owner : {X : Type 0} (row : Row) (result : Result X Fault)
    → Reads (λ (_ : X). ⊤) (λ _. credential_row row.owner) row result → is_err result ≡ false
    → row ≡ credential_row row.owner
credential_of_owner row (Ok y) reads ok = reads.exact.1
credential_of_owner row (Err e) reads ok = absurd (false≢true (sym ok))

-- ---- answers

-- what is not there
pub absent : {X : Type 0} (o p : Option X) → p ≡ o → is_some p ≡ false → o ≡ None
absent o None is h = sym is
absent o (Some x) is h = absurd (false≢true (sym h))

-- a test that fails tells that what passes it does not hold
pub fails : {P : Type 0} (b : Bool) → b ≡ false → (P → b ≡ true) → P → ⊥
fails b is whole p = false≢true (sym is ∙ whole p)

-- texts that are one are the same
pub same_of : (a b : Text) → a ≡ b → same a b ≡ true
same_of a b is = ap (λ x. same x b) is ∙ same_self b

-- what is an error
pub is_error : {X E : Type 0} (r : Result X E) → is_err r ≡ true → (e : E) × (r ≡ Err e)
is_error (Ok x) h = absurd (false≢true h)
is_error (Err e) h = (e, refl)

-- a number above another is not below it
pub above : (m n : ℕ) → n < m → m ≤ n → ⊥
above m n over within = omega (arith, over, within)
