-- The children of a folder, one key after another.
use Rattle.std.proofs.Common.{◌≡◌, ◌<◌, ◌+◌, ◌==◌, ◌∷◌, ◌++◌, if◌then◌else◌, ℕ, suc, List, [], map, filter, drop, take}
use Rattle.records.specs.Words.{length, nat_eq, Bool, true, false, not, cond, starts_with, position_or_len, prefix_len}
use Rattle.records.specs.Words.{before_first, refl, sym, ◌∙◌, ap, arith, eqb-true, Text, child, past, below, push_once}
use Rattle.records.specs.Words.{push_each, slash}

-- ---- a path, and its first part

abbrev is_slash : ℕ → Bool
is_slash b = b == slash

position_here : (c : ℕ) (path : Text) → is_slash c ≡ true → position_or_len is_slash (c ∷ path) ≡ 0
position_here c path h = ap (λ b. cond (not b) (1 + prefix_len (λ x. not (is_slash x)) path) 0) h

position_later : (c : ℕ) (path : Text) → is_slash c ≡ false
    → position_or_len is_slash (c ∷ path) ≡ suc (position_or_len is_slash path)
position_later c path h = ap (λ b. cond (not b) (1 + prefix_len (λ x. not (is_slash x)) path) 0) h ∙ omega arith

-- a path without a slash is its own first part
pub child-whole : (path : Text) → position_or_len is_slash path ≡ length path → child path ≡ path
child-whole [] h = refl
child-whole (c ∷ path) h =
    elim (is_slash c) as (λ v. is_slash c ≡ v → c ∷ (if v then [] else child path) ≡ c ∷ path) [
      | true ↦ λ is. let e = position_here c path is in absurd (omega (arith, e, h))
      | false ↦ λ is.
          let e = position_later c path is in
          let k : position_or_len is_slash path ≡ length path = omega (arith, e, h) in
          ap (λ p. c ∷ p) (child-whole path k)
    ] refl

-- and the first part of another is what stands before its first slash, and the slash
pub child-folder : (path : Text) → position_or_len is_slash path < length path
    → child path ≡ before_first is_slash path ++ slash ∷ []
child-folder [] h = absurd (omega (arith, h))
child-folder (c ∷ path) h =
    elim (is_slash c) as (λ v. is_slash c ≡ v
    → c ∷ (if v then [] else child path) ≡ take (position_or_len is_slash (c ∷ path)) (c ∷ path) ++ slash ∷ []) [
      | true ↦ λ is.
          ap (λ x. x ∷ []) (eqb-true c slash is)
          ∙ sym (ap (λ n. take n (c ∷ path) ++ slash ∷ []) (position_here c path is))
      | false ↦ λ is.
          let e = position_later c path is in
          let k : position_or_len is_slash path < length path = omega (arith, e, h) in
          ap (λ p. c ∷ p) (child-folder path k) ∙ sym (ap (λ n. take n (c ∷ path) ++ slash ∷ []) e)
    ] refl

-- what is past a path without a slash
pub past-whole : (path : Text) → position_or_len is_slash path ≡ length path → past path ≡ path ++ 0 ∷ []
past-whole [] h = refl
past-whole (c ∷ path) h =
    elim (is_slash c) as (λ v. is_slash c ≡ v → (if v then (slash + 1) ∷ [] else c ∷ past path) ≡ c ∷ path ++ 0 ∷ []) [
      | true ↦ λ is. let e = position_here c path is in absurd (omega (arith, e, h))
      | false ↦ λ is.
          let e = position_later c path is in
          let k : position_or_len is_slash path ≡ length path = omega (arith, e, h) in
          ap (λ p. c ∷ p) (past-whole path k)
    ] refl

-- and past another
pub past-folder : (path : Text) → position_or_len is_slash path < length path
    → past path ≡ before_first is_slash path ++ (slash + 1) ∷ []
past-folder [] h = absurd (omega (arith, h))
past-folder (c ∷ path) h =
    elim (is_slash c) as (λ v. is_slash c ≡ v → (if v then (slash + 1) ∷ [] else c ∷ past path)
    ≡ take (position_or_len is_slash (c ∷ path)) (c ∷ path) ++ (slash + 1) ∷ []) [
      | true ↦ λ is. sym (ap (λ n. take n (c ∷ path) ++ (slash + 1) ∷ []) (position_here c path is))
      | false ↦ λ is.
          let e = position_later c path is in
          let k : position_or_len is_slash path < length path = omega (arith, e, h) in
          ap (λ p. c ∷ p) (past-folder path k) ∙ sym (ap (λ n. take n (c ∷ path) ++ (slash + 1) ∷ []) e)
    ] refl

-- ---- one key after another

push_each-append : (texts first more : List Text)
    → push_each texts (first ++ more) ≡ push_each (push_each texts first) more
push_each-append texts [] more = refl
push_each-append texts (t ∷ first) more = push_each-append (push_once texts t) first more

below-cons : (prefix q : Text) (qs : List Text) → below prefix (q ∷ qs) ≡ below prefix (q ∷ []) ++ below prefix qs
below-cons prefix q qs = elim (starts_with nat_eq q prefix) as
    (λ b. map (drop (length prefix))
    (cond b (q ∷ filter (λ q. starts_with nat_eq q prefix) qs) (filter (λ q. starts_with nat_eq q prefix) qs))
    ≡ map (drop (length prefix)) (cond b (q ∷ []) []) ++ map (drop (length prefix))
    (filter (λ q. starts_with nat_eq q prefix) qs)) [
      | true ↦ refl
      | false ↦ refl
    ]

map-append : (xs ys : List Text) → map child (xs ++ ys) ≡ map child xs ++ map child ys
map-append [] ys = refl
map-append (x ∷ xs) ys = ap (λ z. child x ∷ z) (map-append xs ys)

pub push_more : (prefix q : Text) (qs texts : List Text) → push_each texts (map child (below prefix (q ∷ qs)))
    ≡ push_each (push_each texts (map child (below prefix (q ∷ [])))) (map child (below prefix qs))
push_more prefix q qs texts =
    ap (λ rs. push_each texts (map child rs)) (below-cons prefix q qs)
    ∙ ap (push_each texts) (map-append (below prefix (q ∷ [])) (below prefix qs))
    ∙ push_each-append texts (map child (below prefix (q ∷ []))) (map child (below prefix qs))

-- ---- a key that begins with the prefix, or not

pub below_one : (prefix q : Text) → starts_with nat_eq q prefix ≡ true
    → below prefix (q ∷ []) ≡ drop (length prefix) q ∷ []
below_one prefix q h = ap (λ b. map (drop (length prefix)) (cond b (q ∷ []) [])) h

pub below_none : (prefix q : Text) → starts_with nat_eq q prefix ≡ false → below prefix (q ∷ []) ≡ []
below_none prefix q h = ap (λ b. map (drop (length prefix)) (cond b (q ∷ []) [])) h
