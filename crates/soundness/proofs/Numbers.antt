-- Which rows of a kind there are up to one of a page, counted.
use Rattle.std.proofs.Common.{◌≡◌, ◌<◌, ◌≤◌, ◌+◌, ◌++◌, ◌∷◌, [], ℕ, zero, suc, List, All, Bool, true, false, cond}
use Rattle.std.proofs.lemmas.List.{get_or-take}
use Rattle.std.proofs.lemmas.List.Filters.{length-filter_both}
use Rattle.broker_model.specs.Words.{length, take, filter, min, length-take, Ordering, Less, Equal, Greater}
use Rattle.broker_model.specs.Words.{tied_itself}
use Rattle.broker_model.specs.Words.{nat_list_cmp_total, is_sorted, below_all, is_ge, is_le, is_lt, ordering_reverse}
use Rattle.broker_model.specs.Words.{refl, sym, ◌∙◌, ap, get_or, arith, and_parts, false≢true, Contains-get_or, T_true}
use Rattle.broker_model.specs.Words.{Text, text_cmp, Kind, Row, RowKey, key_cmp, just_above, same_kind, Rows}
use Rattle.broker_model.specs.Words.{rows_under}
use Rattle.broker_model.specs.Words.{rows_from}
use Rattle.records.specs.Words.{rows_upto}
use Rattle.soundness.proofs.PageLemmas.{listed_kind, listed_sorted, one_kind}
use Rattle.soundness.proofs.PageOrder.{above, in_page}

-- ---- a test that another implies

filter_less : {X : Type 0} (p q : X → Bool) → ((x : X) → p x ≡ true → q x ≡ true) → (xs : List X)
    → filter p (filter q xs) ≡ filter p xs
filter_less p q so [] = refl
filter_less p q so (x ∷ xs) =
    elim (q x) as (λ b. q x ≡ b → filter p (cond b (x ∷ filter q xs) (filter q xs)) ≡ filter p (x ∷ xs)) [
      | true ↦ λ _ i. cond (p x) (x ∷ filter_less p q so xs i) (filter_less p q so xs i)
      | false ↦ λ no. elim (p x)
          as (λ b. p x ≡ b → filter p (filter q xs) ≡ cond b (x ∷ filter p xs) (filter p xs)) [
            | true ↦ λ yes. absurd (false≢true (sym no ∙ so x yes))
            | false ↦ λ _. filter_less p q so xs
          ] refl
    ] refl

-- ---- rows in the order of their keys

lt_le : (o : Ordering) → is_lt o ≡ true → is_le o ≡ true
lt_le Less h = refl
lt_le Equal h = absurd (false≢true h)
lt_le Greater h = absurd (false≢true h)

lt_turned : (o : Ordering) → is_lt o ≡ true → is_le (ordering_reverse o) ≡ false
lt_turned Less h = refl
lt_turned Equal h = absurd (false≢true h)
lt_turned Greater h = absurd (false≢true h)

-- the rows not above a text
abbrev upto_text : Text → List (RowKey × Row) → List (RowKey × Row)
upto_text q es = filter (λ e. is_le (text_cmp e.0.1 q)) es

module _ (k : Kind) where
  abbrev pub AreOfKind : List (RowKey × Row) → Type 0
  AreOfKind es = All (λ e. e.0.0 ≡ k) es

  behind : (e : RowKey × Row) (es : List (RowKey × Row)) → AreOfKind (e ∷ es) → AreOfKind es
  behind e es all i d below = all (suc i) d (omega (arith, below))

  texts_lt : (x y : RowKey) → x.0 ≡ k → y.0 ≡ k → is_lt (key_cmp x y) ≡ true → is_lt (text_cmp x.1 y.1) ≡ true
  texts_lt x y is_x is_y low =
      let keys : key_cmp x y ≡ text_cmp x.1 y.1 =
      (λ i. key_cmp (is_x i, x.1) (is_y i, y.1)) ∙ one_kind k x.1 y.1 in
      sym (ap is_lt keys) ∙ low

  -- none that is above a key is not above its text
  none_upto : (x : RowKey) → x.0 ≡ k → (es : List (RowKey × Row)) → AreOfKind es → below_all key_cmp x es ≡ true
      → upto_text x.1 es ≡ []
  none_upto x is_x [] kinds low = refl
  none_upto x is_x (e ∷ es) kinds low =
      let parts = and_parts _ _ low in
      let lt = texts_lt x e.0 is_x (kinds 0 e (omega arith)) parts.0 in
      let no : is_le (text_cmp e.0.1 x.1) ≡ false =
      ap is_le (nat_list_cmp_total.antisymm e.0.1 x.1) ∙ lt_turned (text_cmp x.1 e.0.1) lt in
      ap (λ b. cond b (e ∷ upto_text x.1 es) (upto_text x.1 es)) no
      ∙ none_upto x is_x es (behind e es kinds) parts.1

  below_at : (x : RowKey) (es : List (RowKey × Row)) → below_all key_cmp x es ≡ true → (i : ℕ) (d : RowKey × Row)
      → i < length es → is_lt (key_cmp x (get_or es i d).0) ≡ true
  below_at x [] low i d below = absurd (omega (arith, below))
  below_at x (e ∷ es) low zero d below = (and_parts _ _ low).0
  below_at x (e ∷ es) low (suc i) d below = below_at x es (and_parts _ _ low).1 i d (omega (arith, below))

  -- up to the one at an index there are as many as the index and one more
  rank : (es : List (RowKey × Row)) → AreOfKind es → is_sorted key_cmp es ≡ true → (i : ℕ) (d : RowKey × Row)
      → i < length es → length (upto_text (get_or es i d).0.1 es) ≡ i + 1
  rank [] kinds sorted i d below = absurd (omega (arith, below))
  rank (e ∷ es) kinds sorted zero d below =
      let parts = and_parts _ _ sorted in
      let q = e.0.1 in
      let yes : is_le (text_cmp q q) ≡ true = ap is_le (tied_itself nat_list_cmp_total q) in
      ap (λ b. length (cond b (e ∷ upto_text q es) (upto_text q es))) yes
      ∙ ap (λ l. length (e ∷ l)) (none_upto e.0 (kinds 0 e (omega arith)) es (behind e es kinds) parts.0)
  rank (e ∷ es) kinds sorted (suc i) d below =
      let parts = and_parts _ _ sorted in
      let low : i < length es = omega (arith, below) in
      let f = get_or es i d in
      let q = f.0.1 in
      let lt = texts_lt e.0 f.0 (kinds 0 e (omega arith)) (behind e es kinds i d low) (below_at e.0 es parts.0 i d low)
      in
      let yes : is_le (text_cmp e.0.1 q) ≡ true = lt_le (text_cmp e.0.1 q) lt in
      ap (λ b. length (cond b (e ∷ upto_text q es) (upto_text q es))) yes
      ∙ more (rank es (behind e es kinds) parts.1 i d low)
    where
      more : {n : ℕ} → n ≡ i + 1 → suc n ≡ suc i + 1
      more is = omega (arith, is)

-- ---- pages

module _ (rows : Rows) (k : Kind) (from : Text) (count : ℕ) (page : List (RowKey × Row))
    (is : page ≡ take count (rows_from rows k [] from)) where
  abbrev under : List (RowKey × Row)
  under = rows_under rows k []

  abbrev on : List (RowKey × Row)
  on = rows_from rows k [] from

  on_kind : AreOfKind k on
  on_kind i d below =
      let e = get_or on i d in
      same_kind e.0.0 k (listed_kind rows k from count page is e (Contains-get_or on i d below))

  page_short : length page ≤ length on
  page_short =
      let long : length page ≡ min count (length on) = ap length is ∙ length-take count on in omega (arith, long)

  page_few : length page ≤ count
  page_few =
      let long : length page ≡ min count (length on) = ap length is ∙ length-take count on in omega (arith, long)

  page_at : (i : ℕ) (d : RowKey × Row) → i < length page → get_or page i d ≡ get_or on i d
  page_at i d below =
      let few = page_few in
      ap (λ es. get_or es i d) is ∙ get_or-take count on i d (omega (arith, below, few))

  -- how many rows there are up to a row of the page, and above it
  module _ (before : ℕ) (so : before + length on ≡ length under) (i : ℕ) (d : RowKey × Row)
      (below : i < length page) where
    abbrev e : RowKey × Row
    e = get_or page i d

    abbrev next : Text
    next = e.0.1 ++ 0 ∷ []

    later_same : filter (λ f. is_ge (text_cmp f.0.1 next)) on ≡ rows_from rows k [] next
    later_same =
        filter_less (λ f. is_ge (text_cmp f.0.1 next)) (λ f. is_ge (text_cmp f.0.1 from))
        (λ f at. above from e.0.1 f.0.1
        (in_page rows k from count page is e (Contains-get_or page i d below)).2 at) under

    of_all : length (rows_upto rows k [] e.0.1) + length (rows_from rows k [] next) ≡ length under
    of_all =
        length-filter_both (λ f. is_le (text_cmp f.0.1 e.0.1)) (λ f. is_ge (text_cmp f.0.1 next))
        (λ f. just_above f.0.1 e.0.1) under

    of_on : length (upto_text e.0.1 on) + length (rows_from rows k [] next) ≡ length on
    of_on =
        sym (ap (λ l. length (upto_text e.0.1 on) + length l) later_same)
        ∙ length-filter_both (λ f. is_le (text_cmp f.0.1 e.0.1)) (λ f. is_ge (text_cmp f.0.1 next))
        (λ f. just_above f.0.1 e.0.1) on

    ranked : length (upto_text e.0.1 on) ≡ i + 1
    ranked =
        let short = page_short in
        ap (λ (f : RowKey × Row). length (upto_text f.0.1 on)) (page_at i d below)
        ∙ rank k on on_kind (T_true _ (listed_sorted rows k from count page is)) i d (omega (arith, below, short))

    pub number_here : before + i + 1 ≡ length (rows_upto rows k [] e.0.1)
    number_here =
        let all = of_all in
        let some = of_on in
        let here = ranked in
        omega (arith, all, some, here, so)

    pub left_above : before + (i + 1) + length (rows_from rows k [] next) ≡ length under
    left_above =
        let some = of_on in
        let here = ranked in
        omega (arith, some, here, so)
