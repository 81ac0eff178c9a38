-- The order of due rows.
use Rattle.std.proofs.Common.{◌≡◌, false, true, refl, sym, ap, ◌∙◌, unwrap_or}
use Rattle.records.specs.Words.{Ordering, Less, Equal, Greater, is_lt, ordering_reverse, IsTotalOrder}
use Rattle.records.specs.Words.{IsStrictWeakOrder, nat_cmp_total, on_total, then_total, RowKey, key_cmp_total, due_cmp}
use Rattle.records.specs.Words.{Row}

pub due_total : IsTotalOrder due_cmp
due_total =
    then_total (on_total (λ (e : RowKey × Row). unwrap_or e.1.due 0) nat_cmp_total)
    (on_total (λ (e : RowKey × Row). e.0) key_cmp_total)

module _ {K : Type 0} {R : K → K → Ordering} (o : IsTotalOrder R) where
  over : (x y : K) → R y x ≡ Less → is_lt (R x y) ≡ false
  over x y h = ap is_lt (o.antisymm x y ∙ ap ordering_reverse h)

  under : (x y : K) → R x y ≡ Greater → R y x ≡ Less
  under x y h = o.antisymm y x ∙ ap ordering_reverse h

  less : (r : Ordering) → is_lt r ≡ true → r ≡ Less
  less Less h = refl
  less Equal h = absurd cc
  less Greater h = absurd cc

  chained : (x y z : K) (r s : Ordering) → R x y ≡ r → R y z ≡ s → is_lt r ≡ false → is_lt s ≡ false
      → is_lt (R x z) ≡ false
  chained x y z Less s p q a b = absurd cc
  chained x y z Equal s p q a b = ap is_lt (o.congr x y z p ∙ q) ∙ b
  chained x y z Greater Less p q a b = absurd cc
  chained x y z Greater Equal p q a b = over x z (sym (o.congr y z x q) ∙ under x y p)
  chained x y z Greater Greater p q a b = over x z (o.trans z y x (under y z q) (under x y p))

  pub weak : IsStrictWeakOrder (λ x y. is_lt (R x y))
  weak =
      record {
        one_way = λ x y h. over y x (less _ h);
        chain = λ x y z p q. chained x y z (R x y) (R y z) refl refl p q;
      }
