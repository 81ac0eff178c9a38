-- What the groups of a text come to.
use Rattle.std.proofs.Common.{◌≡◌, ◌+◌, ◌-◌, ◌*◌, ◌<◌, ◌≤◌, ◌==◌, ◌&&◌, ◌∷◌, ◌++◌, ℕ, nat_le, List, [], length, get_or}
use Rattle.broker_types.specs.Words.{list_all, is_ascii_digit, drop, Bool, true, false, not, cond, Option, Some, None}
use Rattle.broker_types.specs.Words.{option_and_then, unwrap_or, refl, sym, ap, ◌∙◌, arith, mul-le-mul_left}
use Rattle.broker_types.specs.Words.{drop_of_length-le, append-nil, nat_tests, unit_of, group_end, group_step, groups}
use Rattle.broker_types.specs.Words.{whole_groups, with_unit, at_most, duration_of}
use Rattle.broker_types.specs.SliceLaws.{drop_first}

past : (n : ℕ) → 4294967295 < n → at_most (Some n) ≡ None
past n h = let t : nat_le n 4294967295 ≡ false = grind (arith, nat_tests) in rw t refl

-- a unit is no less than a second
unit_least : (c u : ℕ) → unit_of c ≡ Some u → 1 ≤ u
unit_least c u e = by (c == 104) (c == 109) (c == 115) u e
  where
    by : (a b d : Bool) (u : ℕ) → cond a (Some 3600) (cond b (Some 60) (cond d (Some 1) None)) ≡ Some u → 1 ≤ u
    by true b d u e = let same : 3600 ≡ u = cc in omega arith
    by false true d u e = let same : 60 ≡ u = cc in omega arith
    by false false true u e = let same : 1 ≡ u = cc in omega arith
    by false false false u e = cc

least_product : (n v : ℕ) → 1 ≤ v → n ≤ n * v
least_product n v one = grind (arith, mul-le-mul_left n one)

-- a sum that is too large stays so
pub too_large : (cs : List ℕ) (sum : ℕ) (begun : Option ℕ) → 4294967295 < sum + unwrap_or begun 0
    → at_most (groups sum begun cs) ≡ None
too_large [] sum None h = past sum (omega arith)
too_large [] sum (Some n) h = refl
too_large (c ∷ cs) sum begun h = by_digit (is_ascii_digit c) (λ t b k. too_large cs t b k)
  where
    by_unit : (b : Option ℕ) (u : Option ℕ) → 4294967295 < sum + unwrap_or b 0 → ((v : ℕ) → u ≡ Some v → 1 ≤ v)
        → ((t : ℕ) (b : Option ℕ) → 4294967295 < t + unwrap_or b 0 → at_most (groups t b cs) ≡ None)
        → at_most (option_and_then (λ p. groups p.0 p.1 cs) (group_end sum b u)) ≡ None
    by_unit None u k least later = refl
    by_unit (Some n) None k least later = refl
    by_unit (Some n) (Some v) k least later =
        let one : 1 ≤ v = least v refl in
        let more : n ≤ n * v = least_product n v one in
        later (sum + n * v) None (omega arith)

    by_digit : (t : Bool) → ((t : ℕ) (b : Option ℕ) → 4294967295 < t + unwrap_or b 0 → at_most (groups t b cs) ≡ None)
        → at_most (option_and_then (λ p. groups p.0 p.1 cs)
        (cond t (Some (sum, Some (unwrap_or begun 0 * 10 + (c - 48)))) (group_end sum begun (unit_of c))))
        ≡ None
    by_digit true later = later sum (Some (unwrap_or begun 0 * 10 + (c - 48))) (omega arith)
    by_digit false later = by_unit begun (unit_of c) h (λ v e. unit_least c v e) later

-- the groups of a text, and of the text with its unit
pub with_unit_is : (s : List ℕ) → (more : List ℕ) × (with_unit s ≡ s ++ more)
with_unit_is s = by (not (length s == 0) && list_all is_ascii_digit s)
  where
    by : (t : Bool) → (more : List ℕ) × (cond t (s ++ 115 ∷ []) s ≡ s ++ more)
    by true = (115 ∷ [], refl)
    by false = ([], sym (append-nil s))

-- what a loop over a text knows of its groups
abbrev pub Rest : List ℕ → ℕ → Option ℕ → ℕ → Type 0
Rest s sum begun i = (more : List ℕ) → groups 0 None (s ++ more) ≡ groups sum begun (drop i s ++ more)

pub refused : (s : List ℕ) (i sum : ℕ) (begun : Option ℕ) → i < length s → Rest s sum begun i
    → group_step sum begun (get_or s i 0) ≡ None → None ≡ duration_of s
refused s i sum begun within rest e =
    let m = with_unit_is s in
    rw (m.1, rest m.0, drop_first s i within, e) refl

pub over : (s : List ℕ) (i sum : ℕ) (begun : Option ℕ) (total : ℕ) (digits : Option ℕ) → i < length s
    → Rest s sum begun i
    → group_step sum begun (get_or s i 0) ≡ Some (total, digits) → 4294967295 < total + unwrap_or digits 0
    → None ≡ duration_of s
over s i sum begun total digits within rest e h =
    let m = with_unit_is s in
    rw (m.1, rest m.0, drop_first s i within, e) (sym (too_large (drop (i + 1) s ++ m.0) total digits h))

pub ended : (s : List ℕ) (i sum : ℕ) (begun : Option ℕ) → length s ≤ i → Rest s sum begun i
    → (not (length s == 0) && list_all is_ascii_digit s) ≡ false → at_most (whole_groups sum begun) ≡ duration_of s
ended s i sum begun past_end rest e =
    let whole : groups 0 None s ≡ groups sum begun (drop i s ++ []) = ap (groups 0 None) (sym (append-nil s))
    ∙ rest [] in
    rw (e, whole, drop_of_length-le s {i = i} past_end) refl

pub in_range : (n : ℕ) → n ≤ 4294967295 → at_most (Some n) ≡ Some n
in_range n h = let t : nat_le n 4294967295 ≡ true = grind (arith, nat_tests) in rw t refl
