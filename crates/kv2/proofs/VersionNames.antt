-- Keys of versions: a name, a line feed and twenty digits.
use Rattle.std.proofs.Common.{◌≡◌, ◌==◌, ◌&&◌, ◌∷◌, ◌++◌, ℕ, [], nat_eq, Bool, true, false, bytes_eq, refl, ◌∙◌, ap}
use Rattle.records.specs.Words.{starts_with, arith, and_parts, not-true, Text, same, lacks, eqb_self}

-- ---- prefixes

swap_eq : (x y : ℕ) → (x == y) ≡ (y == x)
swap_eq x y = grind arith

-- a prefix that lacks the byte is one of what comes before it
pub starts-front : (c : ℕ) (front rest prefix : Text) → lacks c prefix ≡ true
    → starts_with nat_eq (front ++ c ∷ rest) prefix ≡ starts_with nat_eq front prefix
starts-front c front rest [] h = refl
starts-front c [] rest (x ∷ p) h = ap (λ b. b && starts_with nat_eq rest p) (not-true _ (and_parts _ _ h).0)
starts-front c (y ∷ front) rest (x ∷ p) h = ap (λ b. (x == y) && b) (starts-front c front rest p (and_parts _ _ h).1)

-- a name and the byte begin just the texts of this name
pub starts-name : (c : ℕ) (front rest name : Text) → lacks c front ≡ true → lacks c name ≡ true
    → starts_with nat_eq (front ++ c ∷ rest) (name ++ c ∷ [])
    ≡ same front name
unfolding same
starts-name c [] rest [] g h = ap (λ b. b && true) (eqb_self c)
starts-name c (y ∷ front) rest [] g h = ap (λ b. b && true) (swap_eq c y ∙ not-true _ (and_parts _ _ g).0)
starts-name c [] rest (x ∷ name) g h = ap (λ b. b && starts_with nat_eq rest (name ++ c ∷ []))
    (not-true _ (and_parts _ _ h).0)
starts-name c (y ∷ front) rest (x ∷ name) g h = λ i. swap_eq x y i
    && starts-name c front rest name (and_parts _ _ g).1 (and_parts _ _ h).1 i

-- ---- the order of keys of one name

-- texts with the byte are one where both parts are
pub same-parts : (c : ℕ) (front rest name end : Text) → lacks c front ≡ true → lacks c name ≡ true
    → same (front ++ c ∷ rest) (name ++ c ∷ end)
    ≡ (same front name && same rest end)
unfolding same
same-parts c [] rest [] end g h = ap (λ b. b && bytes_eq rest end) (eqb_self c)
same-parts c (y ∷ front) rest [] end g h =
    ap (λ b. b && bytes_eq (front ++ c ∷ rest) end) (not-true _ (and_parts _ _ g).0)
same-parts c [] rest (x ∷ name) end g h =
    ap (λ b. b && bytes_eq rest (name ++ c ∷ end)) (swap_eq c x ∙ not-true _ (and_parts _ _ h).0)
same-parts c (y ∷ front) rest (x ∷ name) end g h =
    ap (λ b. (y == x) && b) (same-parts c front rest name end (and_parts _ _ g).1 (and_parts _ _ h).1)
    ∙ regroup (y == x) (bytes_eq front name) (bytes_eq rest end)
  where
    regroup : (a b d : Bool) → (a && (b && d)) ≡ ((a && b) && d)
    regroup true b d = refl
    regroup false b d = refl
