-- What an edit at a key's place does to entries.
use Rattle.std.proofs.Common.{◌≡◌, ◌<◌, ◌≤◌, ◌∷◌, suc, true, false, List, [], length, slice_index_or, refl, sym, ap}
use Rattle.broker_types.specs.Words.{insert, match_ordering, by_order, Ordering, Less, Equal, Greater, set, zero-le}
use Rattle.broker_types.specs.Words.{suc-le-suc, zero-lt-suc, false≢true}
use Rattle.std.specs.FinMap.{put}
use Rattle.records.specs.KeyPlaces.{rank, is_met}

module _ {K X : Type 0} (order : K → K → Ordering) where
  -- no place is behind the end
  pub rank_bound : (q : K) (es : List (K × X)) → rank order q es ≤ length es
  rank_bound q [] = zero-le
  rank_bound q (e ∷ es) =
      elim (order q e.0) as (λ o. match_ordering o 0 0 (suc (rank order q es)) ≤ suc (length es)) [
        | Less ↦ zero-le
        | Equal ↦ zero-le
        | Greater ↦ suc-le-suc (rank_bound q es)
      ]

  -- and a key that is met has one before it
  pub met_bound : (q : K) (es : List (K × X)) → is_met order q es ≡ true → rank order q es < length es
  met_bound q [] met = absurd (false≢true met)
  met_bound q (e ∷ es) met =
      elim (order q e.0) as (λ o. match_ordering o false true (is_met order q es) ≡ true
      → match_ordering o 0 0 (suc (rank order q es)) < suc (length es)) [
        | Less ↦ λ h. absurd (false≢true h)
        | Equal ↦ λ h. zero-lt-suc (length es)
        | Greater ↦ λ h. suc-le-suc (met_bound q es h)
      ] met

  -- to write over the entry that has the key is to put the value in
  pub set_put : (q : K) (v : X) (es : List (K × X)) (x : K × X) → is_met order q es ≡ true
      → x ≡ slice_index_or es (rank order q es) x → set es (rank order q es) (x.0, v) ≡ put order q v es
  set_put q v [] x met got = absurd (false≢true met)
  set_put q v (e ∷ es) x met got =
      elim (order q e.0) as (λ o. match_ordering o false true (is_met order q es) ≡ true
      → x ≡ slice_index_or (e ∷ es) (match_ordering o 0 0 (suc (rank order q es))) x
      → set (e ∷ es) (match_ordering o 0 0 (suc (rank order q es))) (x.0, v)
      ≡ by_order o ((q, v) ∷ e ∷ es) ((e.0, v) ∷ es) (e ∷ put order q v es)) [
        | Less ↦ λ h g. absurd (false≢true h)
        | Equal ↦ λ h g. ap (λ (y : K × X). (y.0, v) ∷ es) g
        | Greater ↦ λ h g. ap (λ (t : List (K × X)). e ∷ t) (set_put q v es x h g)
      ] met got

  -- and so is a new entry before those that are above
  pub insert_put : (q : K) (v : X) (es : List (K × X)) → is_met order q es ≡ false
      → insert es (rank order q es) (q, v) ≡ put order q v es
  insert_put q v [] met = refl
  insert_put q v (e ∷ es) met =
      elim (order q e.0) as (λ o. match_ordering o false true (is_met order q es) ≡ false
      → insert (e ∷ es) (match_ordering o 0 0 (suc (rank order q es))) (q, v)
      ≡ by_order o ((q, v) ∷ e ∷ es) ((e.0, v) ∷ es) (e ∷ put order q v es)) [
        | Less ↦ λ h. refl
        | Equal ↦ λ h. absurd (false≢true (sym h))
        | Greater ↦ λ h. ap (λ (t : List (K × X)). e ∷ t) (insert_put q v es h)
      ] met
