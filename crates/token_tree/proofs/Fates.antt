-- What the passes collect is what ends: what does so by itself, and each child of what ends.
use Rattle.std.proofs.Common.{◌≡◌, ◌∷◌, ◌&&◌, ◌||◌, ℕ, zero, suc, List, [], Bool, true, false, not, nat_lt, nat_le, sym}
use Rattle.records.specs.Words.{Option, Some, None, unwrap_or, option_and_then, both_ways, list_any, list_all}
use Rattle.records.specs.Words.{option_map_or, refl, ◌∙◌, ap, inl, inr, arith, nat_tests, Text, same, get, len, Token}
use Rattle.records.specs.Words.{Tokens, lineage, is_under, is_alive, outlasts, ends_within, ChainsEnd, false≢true}
use Rattle.records.specs.Words.{or_left, or_right, found_or_not, is_nothing, lineage_none, lineage_orphan}
use Rattle.records.specs.Words.{lineage_child, has}
use Rattle.token_tree.specs.Words.{goes, of_owner, has_come, is_named, IsDescent, Start}
use Rattle.token_tree.proofs.ListedTokens.{node, listing, each_listed, listed_at}

-- the texts that end by a start
pub record IsFate (ts : Tokens) (s : Start) (gone : Text → Bool) : Type 0 where
  pub unknown : (q : Text) → get ts q ≡ None → gone q ≡ false
  pub known : (q : Text) (x : Token) → get ts q ≡ Some x → gone q ≡ (s (node q x) || option_map_or gone x.parent false)

-- what holds of an owner holds of its text
owned : (p : Text → Bool) (o : Text) → of_owner p o ≡ true → p o ≡ true
owned p [] h = absurd (false≢true h)
owned p (c ∷ o) h = h

module _ (ts : Tokens) (s : Start) (gone : Text → Bool) (fate : IsFate ts s gone) (chains : ChainsEnd ts)
    (unnamed : get ts [] ≡ None) (ended : List Text)
    (down : IsDescent s (listing ts) ended) where
  starts_at : (t : Text) (x : Token) → get ts t ≡ Some x → s (node t x) ≡ true → gone t ≡ true
  starts_at t x is h = fate.known t x is ∙ or_left _ _ h

  closed_at : (t : Text) (x : Token) → get ts t ≡ Some x → of_owner gone (unwrap_or x.parent []) ≡ true → gone t ≡ true
  closed_at t x is h =
      elim (x.parent) as (λ p. x.parent ≡ p → of_owner gone (unwrap_or p []) ≡ true → gone t ≡ true) [
        | None ↦ λ _ v. absurd (false≢true v)
        | Some p ↦ λ ip v. fate.known t x is ∙ or_right (s (node t x)) _
            (ap (λ o. option_map_or gone o false) ip ∙ owned gone p v)
      ] refl h

  -- what is gone has a text, so its children are its own
  named : (p : Text) → gone p ≡ true → has ended p ≡ true → of_owner (has ended) p ≡ true
  named [] v e = absurd (false≢true (sym (fate.unknown [] unnamed) ∙ v))
  named (c ∷ p) v e = e

  -- a child of what ended, and what ends by itself
  into : (q : Text) (x : Token) → get ts q ≡ Some x
      → (s (node q x) || of_owner (has ended) (unwrap_or x.parent [])) ≡ true → has ended q ≡ true
  into q x is moves = settle _ _ (listed_at ts (λ e. goes s ended e ≡ false) q x is down.stay) moves
    where
      settle : (a b : Bool) → (not a && b) ≡ false → b ≡ true → a ≡ true
      settle true b e m = refl
      settle false b e m = absurd (false≢true (sym e ∙ m))

  moved : (q : Text) (x : Token) (within : Text → Bool)
      → ((p : Text) → within p ≡ true → gone p ≡ true → has ended p ≡ true)
      → option_map_or within x.parent true ≡ true
      → (s (node q x) || option_map_or gone x.parent false) ≡ true
      → (s (node q x) || of_owner (has ended) (unwrap_or x.parent [])) ≡ true
  moved q x within later above v =
      elim (s (node q x)) as (λ b. (b || option_map_or gone x.parent false) ≡ true
      → (b || of_owner (has ended) (unwrap_or x.parent [])) ≡ true) [
        | true ↦ λ _. refl
        | false ↦ λ w. elim (x.parent) as (λ p. option_map_or within p true ≡ true → option_map_or gone p false ≡ true
            → of_owner (has ended) (unwrap_or p []) ≡ true) [
              | None ↦ λ _ e. absurd (false≢true e)
              | Some p ↦ λ a e. named p e (later p a e)
            ] above w
      ] v

  reached : (n : ℕ) (q : Text) → ends_within n ts q ≡ true → gone q ≡ true → has ended q ≡ true
  reached zero q within h = absurd (false≢true (sym (fate.unknown q (is_nothing _ within)) ∙ h))
  reached (suc n) q within h =
      elim (found_or_not (get ts q)) [
        | inl none ↦ absurd (false≢true (sym (fate.unknown q none) ∙ h))
        | inr x ↦ into q x.0 x.1 (moved q x.0 (ends_within n ts) (reached n)
            (sym (ap (λ o. option_map_or (λ (x : Token). option_map_or (ends_within n ts) x.parent true) o true) x.1)
            ∙ within)
            (sym (fate.known q x.0 x.1) ∙ h))
      ]

  pub fated : (q : Text) → has ended q ≡ gone q
  fated q =
      both_ways _ _
      (down.least gone (each_listed ts (λ e. s e ≡ true → gone e.0.1 ≡ true) starts_at)
      (each_listed ts (λ e. of_owner gone e.1.owner ≡ true → gone e.0.1 ≡ true) closed_at) q)
      (reached (len ts) q (chains q))

-- ---- revocation

pub under_fate : (ts : Tokens) (t : Text) → ChainsEnd ts → IsFate ts (is_named t) (λ q. is_under ts q t)
under_fate ts t chains = record {
  unknown = λ q none. ap (list_any (same t)) (lineage_none ts q none);
  known = λ q x is. at q x is x.parent refl;
}
  where
    at : (q : Text) (x : Token) → get ts q ≡ Some x → (p : Option Text) → x.parent ≡ p
        → is_under ts q t ≡ (same t q || option_map_or (λ p. is_under ts p t) x.parent false)
    at q x is None ip = ap (list_any (same t)) (lineage_orphan ts q x is ip)
        ∙ sym (ap (λ o. same t q || option_map_or (λ p. is_under ts p t) o false) ip)
    at q x is (Some p) ip = ap (list_any (same t)) (lineage_child ts q p x chains is ip)
        ∙ sym (ap (λ o. same t q || option_map_or (λ p. is_under ts p t) o false) ip)

-- ---- expiry

module _ (now : ℕ) (ts : Tokens) (chains : ChainsEnd ts) where
  abbrev lasts : Text → Bool
  lasts a = outlasts now (option_and_then (λ (x : Token). x.ends) (get ts a))

  at_or_after : (m : ℕ) → not (nat_lt now m) ≡ nat_le m now
  at_or_after m = grind (arith, nat_tests)

  due_now : (ends : Option ℕ) → not (outlasts now ends) ≡ option_map_or (λ due. nat_le due now) ends false
  due_now None = refl
  due_now (Some m) = at_or_after m

  not_both : (a b : Bool) → not (a && b) ≡ (not a || not b)
  not_both true b = refl
  not_both false b = refl

  ends_at : (q : Text) (x : Token) → get ts q ≡ Some x → not (lasts q) ≡ has_come now (node q x)
  ends_at q x is = ap (λ o. not (outlasts now (option_and_then (λ (y : Token). y.ends) o))) is ∙ due_now x.ends

  pub expired_fate : IsFate ts (has_come now) (λ q. not (is_alive now ts q))
  expired_fate = record {
    unknown = λ q none. ap (λ l. not (list_all lasts l)) (lineage_none ts q none);
    known = λ q x is. at q x is x.parent refl;
  }
    where
      at : (q : Text) (x : Token) → get ts q ≡ Some x → (p : Option Text) → x.parent ≡ p
          → not (is_alive now ts q)
          ≡ (has_come now (node q x) || option_map_or (λ p. not (is_alive now ts p)) x.parent false)
      at q x is None ip =
          ap (λ l. not (list_all lasts l)) (lineage_orphan ts q x is ip) ∙ not_both (lasts q) true
          ∙ (λ i. ends_at q x is i || option_map_or (λ p. not (is_alive now ts p)) (sym ip i) false)
      at q x is (Some p) ip =
          ap (λ l. not (list_all lasts l)) (lineage_child ts q p x chains is ip)
          ∙ not_both (lasts q) (list_all lasts (lineage ts p))
          ∙ (λ i. ends_at q x is i || option_map_or (λ p. not (is_alive now ts p)) (sym ip i) false)
