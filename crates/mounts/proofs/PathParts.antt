-- What stands behind a slash of a path is a path.
use Rattle.std.proofs.Common.{◌≡◌, ◌+◌, ◌&&◌, ◌==◌, ◌⊎◌, ◌∷◌, ◌++◌, if◌then◌else◌, [], length, nat_lt, nat_le, true, ap}
use Rattle.records.specs.Words.{false, Option, Some, None, unwrap_or, list_all, refl, sym, ◌∙◌, arith, length-append}
use Rattle.records.specs.Words.{inl, inr, and_parts, and_from, false≢true, nat_tests, Text, is_path, is_path_byte}
use Rattle.records.specs.Words.{is_segment, segments, slash, split_once, lacking_split}
use Rattle.mounts.specs.Words.{cut}

bytes_behind : (a p : Text) → list_all is_path_byte (a ++ 47 ∷ p) ≡ true → list_all is_path_byte p ≡ true
bytes_behind [] p h = h
bytes_behind (x ∷ a) p h = bytes_behind a p (and_parts (is_path_byte x) (list_all is_path_byte (a ++ 47 ∷ p)) h).1

segments_behind : (begun a p : Text) → list_all is_segment (segments begun (a ++ 47 ∷ p)) ≡ true
    → list_all is_segment (segments [] p) ≡ true
segments_behind begun [] p h = (and_parts (is_segment begun) (list_all is_segment (segments [] p)) h).1
segments_behind begun (x ∷ a) p h =
    elim (x == 47) as (λ v. list_all is_segment
    (if v then begun ∷ segments [] (a ++ 47 ∷ p) else segments (begun ++ x ∷ []) (a ++ 47 ∷ p)) ≡ true
    → list_all is_segment (segments [] p) ≡ true) [
      | true ↦ λ k. segments_behind [] a p
          (and_parts (is_segment begun) (list_all is_segment (segments [] (a ++ 47 ∷ p))) k).1
      | false ↦ λ k. segments_behind (begun ++ x ∷ []) a p k
    ] h

some_bytes : (p : Text) → list_all is_segment (segments [] p) ≡ true → nat_lt 0 (length p) ≡ true
some_bytes [] h = absurd (false≢true h)
some_bytes (x ∷ p) h = grind (arith, nat_tests)

few_bytes : (a p : Text) → nat_le (length (a ++ 47 ∷ p)) 512 ≡ true → nat_le (length p) 512 ≡ true
few_bytes a p h =
    let long : length (a ++ 47 ∷ p) ≡ length a + length (47 ∷ p) = length-append a (47 ∷ p) in
    grind (arith, nat_tests)

-- a path goes on after a slash with a path
pub rest_is_path : (a p : Text) → is_path (a ++ 47 ∷ p) ≡ true → is_path p ≡ true
rest_is_path a p h =
    let q = a ++ 47 ∷ p in
    let d = and_parts (nat_lt 0 (length q) && nat_le (length q) 512 && list_all is_path_byte q)
    (list_all is_segment (segments [] q)) h in
    let k = and_parts (nat_lt 0 (length q) && nat_le (length q) 512) (list_all is_path_byte q) d.0 in
    let n = and_parts (nat_lt 0 (length q)) (nat_le (length q) 512) k.0 in
    let segs = segments_behind [] a p d.1 in
    and_from _ _ (and_from _ _ (and_from _ _ (some_bytes p segs) (few_bytes a p n.1)) (bytes_behind a p k.1)) segs

-- nothing, or a path
abbrev pub IsRest : Text → Type 0
IsRest p = (p ≡ []) ⊎ (is_path p ≡ true)

-- what follows the first segment of a path is nothing or a path
pub rest_of : (q : Text) → is_path q ≡ true → IsRest (cut q).1
rest_of q h =
    elim (split_once slash q) as (
    λ (o : Option (Text × Text)). split_once slash q ≡ o → IsRest (unwrap_or o (q, [])).1
    ) [
      | None ↦ λ _. inl refl
      | Some p ↦ λ is. inr (rest_is_path p.0 p.1 (ap is_path (sym (lacking_split slash q p is).0) ∙ h))
    ] refl
