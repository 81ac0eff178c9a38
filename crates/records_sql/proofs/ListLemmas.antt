-- Lists of entries, in the order of their keys or in any order, and the map that they stand for.
use Rattle.std.proofs.Common.{◌≡◌, ◌&&◌, ◌∷◌, Bool, true, false, cond, List, [], length, map, Option, Some, None, refl}
use Rattle.records.specs.Words.{sym, ap, subst, ◌∙◌, arith, filter, IsPermutation, AllByRecursion, IsDistinct, Ordering}
use Rattle.records.specs.Words.{Less, Equal, Greater, is_eq, eq_by_cmp, find, entries, is_sorted, entries_sorted}
use Rattle.records.specs.Words.{get-entries, get-from_entries, from_entries, entries-insert, len-entries, len-empty}
use Rattle.records.specs.Words.{below_all, same_entries, by_order, IsPermutation-refl, IsPermutation-trans}
use Rattle.records.specs.Words.{IsPermutation-sym, IsPermutation-cons, IsPermutation-middle, Contains-permutation}
use Rattle.records.specs.Words.{found_in, in_found, RowKey as Key, key_cmp, key_cmp_total, key_cmp_exact}
use lib.Dec.{T}
use Rattle.std.specs.FinMap.{put}
use Rattle.sqlite_trees.proofs.ListLemmas.{IsPermutation-filter}
use Rattle.records_sql.specs.Words.{Row as Fields}

pub both_T : (a b : Bool) → T a → T b → T (a && b)
both_T true b p h = h
both_T false b p h = p

pub first_T : (a b : Bool) → T (a && b) → T a
first_T true b h = tt
first_T false b h = h

pub second_T : (a b : Bool) → T (a && b) → T b
second_T true b h = h
second_T false b h = absurd h

-- ---- to put an entry whose key is new

fresh_key : (o : Ordering) (x : Fields) (y : Option Fields) → cond (is_eq o) (Some x) y ≡ None → (o ≡ Equal → ⊥)
    × (y ≡ None)
fresh_key Less x y h = (λ e. absurd cc, h)
fresh_key Equal x y h = absurd cc
fresh_key Greater x y h = (λ e. absurd cc, h)

pub put_permutes : (k : Key) (v : Fields) (es : List (Key × Fields)) → find key_cmp k es ≡ None
    → IsPermutation ((k, v) ∷ es) (put key_cmp k v es)
put_permutes k v [] none = IsPermutation-refl ((k, v) ∷ [])
put_permutes k v (e ∷ es) none =
    let fresh = fresh_key (key_cmp k e.0) e.1 (find key_cmp k es) none in
    elim (key_cmp k e.0) as (λ o. (o ≡ Equal → ⊥)
    → IsPermutation ((k, v) ∷ e ∷ es) (by_order o ((k, v) ∷ e ∷ es) ((e.0, v) ∷ es) (e ∷ put key_cmp k v es))) [
      | Less ↦ λ _. IsPermutation-refl ((k, v) ∷ e ∷ es)
      | Equal ↦ λ h. absurd (h refl)
      | Greater ↦ λ _.
          IsPermutation-trans _ _ _ (IsPermutation-sym _ _ (IsPermutation-middle (e ∷ []) (k, v) es))
          (IsPermutation-cons e _ _ (put_permutes k v es fresh.1))
    ] fresh.0

-- ---- each key once

abbrev pub Once : List (Key × Fields) → Type 0
Once es = IsDistinct (eq_by_cmp key_cmp) (map (λ e. e.0) es)

other_keys : (x : Key) (es : List (Key × Fields))
    → AllByRecursion (λ y. eq_by_cmp key_cmp x y ≡ false) (map (λ e. e.0) es) → find key_cmp x es ≡ None
other_keys x [] h = refl
other_keys x (e ∷ es) h = ap (λ b. cond b (Some e.1) (find key_cmp x es)) h.0 ∙ other_keys x es h.1

none_of : (es : List (Key × Fields)) → length es ≡ 0 → es ≡ []
none_of [] h = refl
none_of (e ∷ es) h = absurd (omega arith)

no_entries : entries (from_entries {K = Key} {X = Fields} {R = key_cmp} []) ≡ []
no_entries = none_of _ (sym (len-entries _) ∙ len-empty key_cmp Fields)

-- the map of a list with each key once has just its entries
pub entries_permute : (es : List (Key × Fields)) → Once es → IsPermutation es (entries (from_entries {R = key_cmp} es))
unfolding IsDistinct
entries_permute [] once = subst (IsPermutation []) (sym no_entries) (IsPermutation-refl [])
entries_permute (e ∷ es) once =
    let m = from_entries {R = key_cmp} es in
    let fresh : find key_cmp e.0 (entries m) ≡ None = sym (get-entries m e.0) ∙ get-from_entries key_cmp_total es e.0
    ∙ other_keys e.0 es once.0 in
    subst (IsPermutation (e ∷ es)) (sym (entries-insert key_cmp_total m e.0 e.1))
    (IsPermutation-trans _ _ _ (IsPermutation-cons e es (entries m) (entries_permute es once.1))
    (put_permutes e.0 e.1 (entries m) fresh))

-- ---- lists in order

below_filter : (p : Key × Fields → Bool) (x : Key) (es : List (Key × Fields)) → T (below_all key_cmp x es)
    → T (below_all key_cmp x (filter p es))
below_filter p x [] h = tt
below_filter p x (e ∷ es) h =
    let rest = below_filter p x es (second_T _ _ h) in
    elim (p e) as (λ b. T (below_all key_cmp x (cond b (e ∷ filter p es) (filter p es))))
    [ true ↦ both_T _ _ (first_T _ _ h) rest | false ↦ rest ]

pub sorted_filter : (p : Key × Fields → Bool) (es : List (Key × Fields)) → T (is_sorted key_cmp es)
    → T (is_sorted key_cmp (filter p es))
sorted_filter p [] h = tt
sorted_filter p (e ∷ es) h =
    let rest = sorted_filter p es (second_T _ _ h) in
    elim (p e) as (λ b. T (is_sorted key_cmp (cond b (e ∷ filter p es) (filter p es))))
    [ true ↦ both_T _ _ (below_filter p e.0 es (first_T _ _ h)) rest | false ↦ rest ]

-- lists in order with the same entries find the same
pub same_finds : (x : Key) (es fs : List (Key × Fields)) → T (is_sorted key_cmp es) → T (is_sorted key_cmp fs)
    → IsPermutation es fs → find key_cmp x es ≡ find key_cmp x fs
same_finds x es fs first second perm =
    elim (find key_cmp x es) as (λ o. find key_cmp x es ≡ o → o ≡ find key_cmp x fs) [
      | Some v ↦ λ at.
          sym (in_found key_cmp key_cmp_total fs second (x, v)
          (Contains-permutation es fs (x, v) perm (found_in key_cmp key_cmp_exact x v es at)))
      | None ↦ λ none.
          elim (find key_cmp x fs) as (λ o. find key_cmp x fs ≡ o → None ≡ o) [
            | None ↦ λ _. refl
            | Some v ↦ λ at.
                sym none ∙ in_found key_cmp key_cmp_total es first (x, v)
                (Contains-permutation fs es (x, v) (IsPermutation-sym es fs perm)
                (found_in key_cmp key_cmp_exact x v fs at))
          ] refl
    ] refl

-- A list in order that has just the entries of another that pass a test: it is that part of the other's map.
pub in_order_is : (p : Key × Fields → Bool) (es fs : List (Key × Fields)) → Once es → IsPermutation (filter p es) fs
    → T (is_sorted key_cmp fs) → fs ≡ filter p (entries (from_entries {R = key_cmp} es))
in_order_is p es fs once perm sorted =
    let m = from_entries {R = key_cmp} es in
    let rising : T (is_sorted key_cmp (filter p (entries m))) = sorted_filter p (entries m) (entries_sorted m) in
    let same : IsPermutation fs (filter p (entries m)) =
    IsPermutation-trans _ _ _ (IsPermutation-sym _ _ perm)
    (IsPermutation-filter p es (entries m) (entries_permute es once)) in
    same_entries key_cmp key_cmp_total key_cmp_exact fs (filter p (entries m)) sorted rising
    (λ x. same_finds x fs (filter p (entries m)) sorted rising same)
