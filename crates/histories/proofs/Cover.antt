-- Laws of what a history gives out: it is all that is used.
use Rattle.std.proofs.Common.{◌≡◌, ◌⊎◌, ◌<◌, ◌∷◌}
use Rattle.histories.specs.Words.{ℕ, zero, suc, take, [], true, Some, None, sym, ◌∙◌, ap, subst, inl, list_any, inr}
use Rattle.histories.specs.Words.{cases_order, none-some, same_Some, Text, same, get, Broker, IsUsed, member_new}
use Rattle.histories.specs.Words.{Asking, AskedAt, History, given_out}
use Rattle.histories.proofs.Keeping.{EachKeeps, EachMarks}
use Rattle.histories.proofs.Lasting.{asked_keeps, evolved_since}
use Rattle.histories.proofs.Used.{any_left, any_right, member_used, used_or}

-- what is used where a request is asked was used at first, or an earlier event gave it out
pub used_is_given : (b : Broker) (history : History) (j : ℕ) (x : Asking) (i : Text) → EachMarks b history
    → AskedAt history j x → IsUsed x.broker i → IsUsed b i ⊎ (list_any (same i) (given_out (take j history)) ≡ true)
used_is_given b [] j x i h at used = absurd (none-some _ at)
used_is_given b (None ∷ later) zero x i h at used = absurd (none-some _ at)
used_is_given b (None ∷ later) (suc j) x i h at used = used_is_given b later j x i h at used
used_is_given b (Some a ∷ later) zero x i (is, marks, h) at used =
    inl (subst (λ c. IsUsed c i) is (subst (λ (z : Asking). IsUsed z.broker i) (sym (same_Some _ _ at)) used))
used_is_given b (Some a ∷ later) (suc j) x i (is, marks, h) at used =
    elim (used_is_given a.outcome.next later j x i h at used) [
      | inl before ↦ elim (used_or a.broker.used a.outcome.taken i
          (λ none. before (ap (λ m. get m i) marks.marked ∙ none))) [
            | inl here ↦ inr (any_left i a.outcome.taken (given_out (take j later)) here)
            | inr old ↦ inl (subst (λ c. IsUsed c i) is old)
          ]
      | inr rest ↦ inr (any_right i a.outcome.taken (given_out (take j later)) rest)
    ]

-- ---- what is given out once

module _ (body : Asking → Text) (b : Broker) (history : History) (h : EachKeeps body b history) where
  no_second_birth : (i j : ℕ) (a x : Asking) (o : Text) → AskedAt history i a → AskedAt history j x
      → a.outcome.born ≡ Some o → x.outcome.born ≡ Some o → i < j → ⊥
  no_second_birth i j a x o one other born again lt =
      let k = asked_keeps body b history i a h one in
      let l = asked_keeps body b history j x h other in
      (evolved_since body b history i j a x h one other lt).used o
      (λ none. member_used a.broker.used a.outcome.taken o (k.born_is_taken o born)
      (ap (λ m. get m o) (sym k.taken_are_used) ∙ none))
      (member_new x.broker.used x.outcome.taken o l.taken_are_new (l.born_is_taken o again))

  -- an origin is made once
  pub one_birth : (i j : ℕ) (a x : Asking) (o : Text) → AskedAt history i a → AskedAt history j x
      → a.outcome.born ≡ Some o → x.outcome.born ≡ Some o → i ≡ j
  one_birth i j a x o one other born again = elim (cases_order i j) [
    | inl e ↦ e
    | inr r ↦ elim r [
      | inl lt ↦ absurd (no_second_birth i j a x o one other born again lt)
      | inr gt ↦ absurd (no_second_birth j i x a o other one again born gt)
    ]
  ]
