-- The rows of a kind, page by page.
use Rattle.std.proofs.Common.{◌≡◌, ◌<◌, ◌-◌, ◌∷◌, ◌++◌, ℕ, List, [], length, slice_get, take, drop, filter, true, false}
use Rattle.std.proofs.Common.{not, Some, ap, refl, sym, ◌∙◌, append_assoc, arith, suc, Bool}
use Rattle.records.specs.Words.{is_sorted, below_all, is_ge, is_le, is_lt, text_cmp, nat_list_cmp_total, tied_itself}
use Rattle.records.specs.Words.{ordering_reverse, and_parts, take-append-drop, T_true, Less, min, length-take, take_all}
use Rattle.records.specs.Words.{RowKey, Rows, rows_under, rows_from, just_above, not_below_none, named, listed-sorted}
use Rattle.records.specs.Words.{Text}
use Rattle.records.specs.declared.kind.Kind.{Kind}
use Rattle.records.specs.declared.row.Row.{Row}
use Rattle.broker_types.specs.TestLaws.{is_less}

-- whether the key of an entry is above a text
abbrev pub is_above : Text → RowKey × Row → Bool
is_above t x = is_ge (text_cmp x.0.1 (t ++ 0 ∷ []))

-- ---- entries in the order of their keys

passes : (t : Text) (es : List (RowKey × Row)) → below_all text_cmp t (named es) ≡ true → filter (is_above t) es ≡ es
passes t [] h = refl
passes t (e ∷ es) h =
    let parts = and_parts _ _ h in
    let less : text_cmp t e.0.1 ≡ Less = is_less (text_cmp t e.0.1) parts.0 in
    let above : is_above t e ≡ true =
    just_above e.0.1 t ∙ ap (λ o. not (is_le o)) (nat_list_cmp_total.antisymm e.0.1 t ∙ ap ordering_reverse less) in
    rw (above, passes t es parts.1) refl

below_one : (t : Text) (front back : List (RowKey × Row)) (e : RowKey × Row)
    → below_all text_cmp t (named (front ++ e ∷ back)) ≡ true → text_cmp t e.0.1 ≡ Less
below_one t [] back e h = is_less _ (and_parts _ _ h).0
below_one t (f ∷ fs) back e h = below_one t fs back e (and_parts _ _ h).1

-- those above one of them are those behind it
pub behind : (front back : List (RowKey × Row)) (e : RowKey × Row)
    → is_sorted text_cmp (named (front ++ e ∷ back)) ≡ true → filter (is_above e.0.1) (front ++ e ∷ back) ≡ back
behind [] back e h =
    let parts = and_parts _ _ h in
    let itself : is_above e.0.1 e ≡ false =
    just_above e.0.1 e.0.1 ∙ ap (λ o. not (is_le o)) (tied_itself nat_list_cmp_total e.0.1) in
    rw itself (passes e.0.1 back parts.0)
behind (f ∷ fs) back e h =
    let parts = and_parts _ _ h in
    let under : is_above e.0.1 f ≡ false =
    just_above f.0.1 e.0.1 ∙ ap (λ o. not (is_le o)) (below_one f.0.1 fs back e parts.0) in
    rw under (behind fs back e parts.1)

-- a page that is not empty has a last row
pub record EndsIn (page : List (RowKey × Row)) : Type 0 where
  pub front : List (RowKey × Row)
  pub last : RowKey × Row
  pub is : page ≡ front ++ last ∷ []
  pub got : slice_get page (length page - 1) ≡ Some last

pub ends_in : (page : List (RowKey × Row)) → 0 < length page → EndsIn page
ends_in [] some = absurd (omega (arith, some))
ends_in (e ∷ []) some = record { front = []; last = e; is = refl; got = refl }
ends_in (e ∷ f ∷ fs) some =
    let more = ends_in (f ∷ fs) (omega arith) in
    let n : length (e ∷ f ∷ fs) - 1 ≡ suc (length (f ∷ fs) - 1) = omega arith in
    record {
      front = e ∷ more.front;
      last = more.last;
      is = ap (λ es. e ∷ es) more.is;
      got = ap (slice_get (e ∷ f ∷ fs)) n ∙ more.got;
    }

-- ---- the rows of a kind

-- these rows of the kind, and those from the key on
abbrev pub AreBefore : Rows → Kind → Text → List (RowKey × Row) → Type 0
AreBefore rows k from done = done ++ rows_from rows k [] from ≡ rows_under rows k []

all_from_none : (es : List (RowKey × Row)) → filter (λ x. is_ge (text_cmp x.0.1 [])) es ≡ es
all_from_none [] = refl
all_from_none (e ∷ es) = rw (not_below_none e.0.1, all_from_none es) refl

-- none is before the first key
pub none_before : (rows : Rows) (k : Kind) → AreBefore rows k [] []
none_before rows k = all_from_none (rows_under rows k [])

module _ (rows : Rows) (k : Kind) (from : Text) (count : ℕ) (done page : List (RowKey × Row))
    (is : page ≡ take count (rows_from rows k [] from)) (before : AreBefore rows k from done) where
  abbrev rest : List (RowKey × Row)
  rest = drop count (rows_from rows k [] from)

  whole : done ++ (page ++ rest) ≡ rows_under rows k []
  whole =
      ap (λ es. done ++ (es ++ rest)) is ∙ ap (λ es. done ++ es) (take-append-drop count (rows_from rows k [] from))
      ∙ before

  -- a page that is not full is the last
  pub page_ends : length page < count → done ++ page ≡ rows_under rows k []
  page_ends short =
      let all = rows_from rows k [] from in
      let long : length page ≡ min count (length all) = ap length is ∙ length-take count all in
      ap (λ es. done ++ es) (is ∙ take_all count all (omega (arith, long, short))) ∙ before

  -- the next begins just above the last row of any other
  pub page_more : (last : RowKey × Row) → (front : List (RowKey × Row)) → page ≡ front ++ last ∷ []
      → AreBefore rows k (last.0.1 ++ 0 ∷ []) (done ++ page)
  page_more last front ends =
      let split : (done ++ front) ++ last ∷ rest ≡ rows_under rows k [] =
      append_assoc done front (last ∷ rest) ∙ ap (λ es. done ++ es) (sym (append_assoc front (last ∷ []) rest))
      ∙ ap (λ es. done ++ (es ++ rest)) (sym ends) ∙ whole in
      let sorted : is_sorted text_cmp (named ((done ++ front) ++ last ∷ rest)) ≡ true =
      ap (λ es. is_sorted text_cmp (named es)) split ∙ T_true _ (listed-sorted k [] rows) in
      let next : rows_from rows k [] (last.0.1 ++ 0 ∷ []) ≡ rest =
      ap (filter (is_above last.0.1)) (sym split) ∙ behind (done ++ front) rest last sorted in
      ap (λ es. (done ++ page) ++ es) next ∙ append_assoc done page rest ∙ whole
