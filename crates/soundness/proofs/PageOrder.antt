-- The order of the rows on a page: each is there once, and none is above the last.
use Rattle.std.proofs.Common.{◌≡◌, ◌≢◌, ◌<◌, ◌-◌, ◌++◌, ◌∷◌, [], ℕ, zero, suc, List, Contains, Bool, true, false, not}
use Rattle.broker_model.specs.Words.{cond, length, take, drop, slice_get, Option, Some, None, Ordering, Less, Equal}
use Rattle.broker_model.specs.Words.{Greater, tied_itself, nat_list_cmp_total, get, is_sorted, below_all, is_ge, is_gt}
use Rattle.broker_model.specs.Words.{is_le, is_lt, ordering_reverse, refl, sym, ◌∙◌, ap, subst, get_or, arith}
use Rattle.broker_model.specs.Words.{and_parts, false≢true, not-true, upto, All-contains, Contains-append_left}
use Rattle.broker_model.specs.Words.{get_or_from_slice_get, none-some, same_Some, T_from_true, Text, text_cmp, T_true}
use Rattle.broker_model.specs.Words.{Kind, Row, in_found, kept_cases, passing_each, RowKey, key_cmp, key_cmp_total}
use Rattle.broker_model.specs.Words.{same_kind, just_above, last_of, last_got, page_finds, first_sorted, Rows}
use Rattle.broker_model.specs.Words.{rows_under, rows_from}
use Rattle.std.specs.FinMap.{find}
use Rattle.soundness.specs.Words.{AreApart}
use Rattle.soundness.proofs.PageLemmas.{is_from, is_under, listed, listed_sorted, one_kind, split}

-- ---- entries in the order of their keys

low_at : (x : RowKey) (es rest : List (RowKey × Row)) → below_all key_cmp x (es ++ rest) ≡ true → (j : ℕ)
    (d : RowKey × Row) → j < length es → is_lt (key_cmp x (get_or es j d).0) ≡ true
low_at x [] rest h j d below = absurd (omega (arith, below))
low_at x (e ∷ es) rest h zero d below = (and_parts _ _ h).0
low_at x (e ∷ es) rest h (suc j) d below = low_at x es rest (and_parts _ _ h).1 j d (omega (arith, below))

not_lower : (x y : RowKey) → is_lt (key_cmp x y) ≡ true → x ≢ y
not_lower x y low same =
    false≢true (sym (ap is_lt (tied_itself key_cmp_total x)) ∙ ap (λ z. is_lt (key_cmp x z)) same ∙ low)

-- no two have one key
pub sorted_apart : (es rest : List (RowKey × Row)) → is_sorted key_cmp (es ++ rest) ≡ true → AreApart (λ e. e.0) es
sorted_apart [] rest h i j d e before below = absurd (omega (arith, below))
sorted_apart (x ∷ xs) rest h i zero d e before below = absurd (omega (arith, before))
sorted_apart (x ∷ xs) rest h zero (suc j) d e before below =
    not_lower x.0 (get_or xs j e).0 (low_at x.0 xs rest (and_parts _ _ h).0 j e (omega (arith, below)))
sorted_apart (x ∷ xs) rest h (suc i) (suc j) d e before below =
    sorted_apart xs rest (and_parts _ _ h).1 i j d e (omega (arith, before)) (omega (arith, below))

-- ---- texts in order

turned_ge : (o : Ordering) → is_gt o ≡ false → is_ge (ordering_reverse o) ≡ true
turned_ge Less h = refl
turned_ge Equal h = refl
turned_ge Greater h = absurd (false≢true (sym h))

turned_gt : (o : Ordering) → is_ge (ordering_reverse o) ≡ true → is_gt o ≡ false
turned_gt Less h = refl
turned_gt Equal h = refl
turned_gt Greater h = absurd (false≢true h)

turned_le : (o : Ordering) → is_le (ordering_reverse o) ≡ false → is_gt o ≡ false
turned_le Less h = refl
turned_le Equal h = refl
turned_le Greater h = absurd (false≢true (sym h))

-- what is above the key of a page's row is above what the page begins with
pub above : (from last q : Text) → is_ge (text_cmp last from) ≡ true → is_ge (text_cmp q (last ++ 0 ∷ [])) ≡ true
    → is_ge (text_cmp q from) ≡ true
above from last q later at =
    let total = nat_list_cmp_total in
    let low : is_gt (text_cmp from last) ≡ false =
    turned_gt (text_cmp from last) (ap is_ge (sym (total.antisymm last from)) ∙ later) in
    let high : is_gt (text_cmp last q) ≡ false =
    turned_le (text_cmp last q)
    (ap is_le (sym (total.antisymm q last)) ∙ not-true (is_le (text_cmp q last)) (sym (just_above q last) ∙ at)) in
    ap is_ge (total.antisymm q from) ∙ turned_ge (text_cmp from q) (upto total from last q low high)

-- ---- pages

-- the last of a page
abbrev pub IsLast : List (RowKey × Row) → RowKey × Row → Type 0
IsLast page e = slice_get page (length page - 1) ≡ Some e

-- a page that is not empty has one
pub last_row : (page : List (RowKey × Row)) → 0 < length page → (e : RowKey × Row) × IsLast page e
last_row [] some = absurd (omega (arith, some))
last_row (x ∷ xs) some = (last_of key_cmp key_cmp_total x xs, last_got key_cmp key_cmp_total x xs)

begins_last : (page : List (RowKey × Row)) (e : RowKey × Row) → IsLast page e
    → (x : RowKey × Row) × ((xs : List (RowKey × Row)) × (page ≡ x ∷ xs)
    × (e ≡ last_of key_cmp key_cmp_total x xs))
begins_last [] e last = absurd (none-some e last)
begins_last (x ∷ xs) e last =
    (x, (xs, refl, same_Some _ _ (sym last ∙ last_got key_cmp key_cmp_total x xs)))

last_in : (page : List (RowKey × Row)) (e : RowKey × Row) → IsLast page e → Contains page e
last_in [] e last = absurd (none-some e last)
last_in (x ∷ xs) e last =
    let n = length (x ∷ xs) - 1 in
    (n, omega arith, get_or_from_slice_get (x ∷ xs) n e e last)

module _ (rows : Rows) (k : Kind) (from : Text) (count : ℕ) (page : List (RowKey × Row))
    (is : page ≡ take count (rows_from rows k [] from)) where
  -- each is a row of the kind, from the key on
  pub in_page : (e : RowKey × Row) → Contains page e
      → (get rows e.0 ≡ Some e.1) × (e.0.0 ≡ k) × (is_ge (text_cmp e.0.1 from) ≡ true)
  in_page e has =
      let all : List (RowKey × Row) = listed rows k from count page is in
      let under = rows_under rows k [] in
      let in_all : Contains all e =
      subst (λ es. Contains es e) (split rows k from count page is)
      (Contains-append_left page (drop count all) e has) in
      let one = All-contains
      (λ f. Contains under f × (is_from rows k from count page is f ≡ true)) all e
      (kept_cases (is_from rows k from count page is) under) in_all in
      let two = All-contains (λ f. (get rows f.0 ≡ Some f.1) × (is_under rows k from count page is f ≡ true)) under e
      (passing_each rows (is_under rows k from count page is)) one.0 in
      (two.0, same_kind e.0.0 k (and_parts _ _ two.1).0, one.1)

  pub page_sorted : is_sorted key_cmp (page ++ drop count (listed rows k from count page is)) ≡ true
  page_sorted =
      ap (is_sorted key_cmp) (split rows k from count page is) ∙ T_true _ (listed_sorted rows k from count page is)

  module _ (last : RowKey × Row) (ends : IsLast page last) where
    -- none is above the last
    pub page_upto : (e : RowKey × Row) → Contains page e → is_ge (text_cmp e.0.1 (last.0.1 ++ 0 ∷ [])) ≡ false
    page_upto e has =
        let more = drop count (listed rows k from count page is) in
        let b = begins_last page last ends in
        let whole : is_sorted key_cmp (b.0 ∷ b.1.0 ++ more) ≡ true =
        ap (λ es. is_sorted key_cmp (es ++ more)) (sym b.1.1) ∙ page_sorted in
        let found : find key_cmp e.0 (b.0 ∷ b.1.0) ≡ Some e.1 =
        in_found key_cmp key_cmp_total (b.0 ∷ b.1.0)
        (T_from_true _ (first_sorted key_cmp key_cmp_total (b.0 ∷ b.1.0) more whole)) e
        (subst (λ es. Contains es e) b.1.1 has) in
        let low : is_le (key_cmp e.0 last.0) ≡ true =
        upto_last (is_le (key_cmp e.0 last.0)) (find key_cmp e.0 (b.0 ∷ b.1.0 ++ more)) e.1
        (ap (λ (f : RowKey × Row). cond (is_le (key_cmp e.0 f.0)) (find key_cmp e.0 (b.0 ∷ b.1.0 ++ more)) None) b.1.2
        ∙ sym (page_finds key_cmp key_cmp_total b.0 b.1.0 more whole e.0) ∙ found) in
        let here = in_page e has in
        let there = in_page last (last_in page last ends) in
        let keys : key_cmp e.0 last.0 ≡ text_cmp e.0.1 last.0.1 =
        (λ i. key_cmp (here.1 i, e.0.1) (there.1 i, last.0.1)) ∙ one_kind k e.0.1 last.0.1 in
        just_above e.0.1 last.0.1 ∙ ap not (ap is_le (sym keys) ∙ low)
      where
        upto_last : (b : Bool) (o : Option Row) (r : Row) → cond b o None ≡ Some r → b ≡ true
        upto_last true o r h = refl
        upto_last false o r h = absurd (none-some r h)

    -- and what is above the last is from the key on
    pub above_from : (q : Text) → is_ge (text_cmp q (last.0.1 ++ 0 ∷ [])) ≡ true → is_ge (text_cmp q from) ≡ true
    above_from q at = above from last.0.1 q (in_page last (last_in page last ends)).2 at
