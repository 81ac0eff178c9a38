-- Laws of texts split at a byte.
use Rattle.std.proofs.Common.{◌≡◌, ◌==◌, ◌&&◌, ◌∷◌, ◌++◌, ℕ, [], not, true, false, Some, None, option_map, refl, sym}
use Rattle.broker_types.specs.Words.{◌∙◌, ap, and_parts, not-true, eqb-true, none-some, same_Some, bytes_eq-Decides}
use Rattle.broker_types.specs.Words.{Text}
use Rattle.records.specs.Splits.{split_once, split_step, lacks}

-- a byte is itself
pub eqb_self : (c : ℕ) → (c == c) ≡ true
eqb_self c = (and_parts (c == c) true ((bytes_eq-Decides (c ∷ []) (c ∷ [])).1 refl)).0

-- a text is split after the front that lacks the byte
pub split-lacking : (c : ℕ) (front rest : Text) → lacks c front ≡ true
    → split_once c (front ++ c ∷ rest) ≡ Some (front, rest)
split-lacking c [] rest h = ap (λ b. split_step b c rest (split_once c rest)) (eqb_self c)
split-lacking c (x ∷ front) rest h =
    let parts = and_parts _ _ h in
    ap (λ b. split_step b x (front ++ c ∷ rest) (split_once c (front ++ c ∷ rest))) (not-true _ parts.0)
    ∙ ap (option_map (λ p. (x ∷ p.0, p.1))) (split-lacking c front rest parts.1)

-- and a front that was split off lacks it
pub lacking_split : (c : ℕ) (q : Text) (p : Text × Text) → split_once c q ≡ Some p
    → (q ≡ p.0 ++ c ∷ p.1) × (lacks c p.0 ≡ true)
lacking_split c [] p h = absurd (none-some _ h)
lacking_split c (x ∷ q) p h =
    elim (x == c) as (λ b. (x == c) ≡ b → split_step b x q (split_once c q) ≡ Some p
    → (x ∷ q ≡ p.0 ++ c ∷ p.1) × (lacks c p.0 ≡ true)) [
      | true ↦ λ is e.
          let at : x ≡ c = eqb-true x c is in
          let front : Text × Text = ([], q) in
          let pair : front ≡ p = same_Some _ _ e in (
            ap (λ y. y ∷ q) at ∙ ap (λ (r : Text × Text). r.0 ++ c ∷ r.1) pair,
            ap (λ (r : Text × Text). lacks c r.0) (sym pair),
          )
      | false ↦ λ is e.
          elim (split_once c q) as (λ o. split_once c q ≡ o → split_step false x q o ≡ Some p
          → (x ∷ q ≡ p.0 ++ c ∷ p.1) × (lacks c p.0 ≡ true)) [
            | None ↦ λ _ z. absurd (none-some _ z)
            | Some r ↦ λ found z.
                let front : Text × Text = (x ∷ r.0, r.1) in
                let pair : front ≡ p = same_Some _ _ z in
                let rest = lacking_split c q r found in (
                  ap (λ y. x ∷ y) rest.0 ∙ ap (λ (r : Text × Text). r.0 ++ c ∷ r.1) pair,
                  ap (λ (r : Text × Text). lacks c r.0) (sym pair) ∙ (λ i. not (is i) && rest.1 i),
                )
          ] refl e
    ] refl h
