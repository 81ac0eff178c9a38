-- A walk over the rows of a kind by pages, and over all kinds.
use Rattle.std.proofs.Common.{◌≡◌, ◌≢◌, ◌<◌, ◌+◌, ◌-◌, ◌&&◌, ◌++◌, ◌∷◌, ◌==◌, ◌⊎◌, [], ℕ, zero, suc, List, Bool}
use Rattle.broker_model.specs.Words.{true, false, inl, inr, length, take, Contains, slice_get, is_ge, refl, sym, ap}
use Rattle.broker_model.specs.Words.{◌∙◌, subst, get_or, arith, and_parts, eqb-true, false≢true, Contains-get_or, Text}
use Rattle.broker_model.specs.Words.{text_cmp, Kind, Row, RowKey, kind_number, key_cmp, key_cmp_total, last_of}
use Rattle.broker_model.specs.Words.{last_got}
use Rattle.broker_model.specs.Words.{cond, filter, not_below_none, Some, same_Some, none-some, get_or_from_slice_get}
use Rattle.broker_model.specs.Words.{table_of, Rows, rows_under}
use Rattle.broker_model.specs.Words.{rows_from}
use Rattle.records.specs.Words.{rows_upto}
use Rattle.soundness.specs.Words.{AreApart, CanBeWalked, IsEntry, IsOfKind}
use Rattle.soundness.proofs.Numbers.{left_above, number_here}
use Rattle.soundness.proofs.PageLemmas.{long_page, short_page}
use Rattle.soundness.proofs.PageOrder.{IsLast, above_from, in_page, page_sorted, page_upto, sorted_apart}
use Rattle.soundness.proofs.WalkLemmas.{all_kinds}

-- ---- pages

-- the entry is a row of the kind below a key
abbrev pub IsBelow : Rows → Kind → Text → RowKey × Row → Type 0
IsBelow rows k from e = IsEntry (table_of rows) e × (e.0.0 ≡ k) × (is_ge (text_cmp e.0.1 from) ≡ false)

-- no key is below the first
pub below_none : (rows : Rows) (k : Kind) (e : RowKey × Row) → IsBelow rows k [] e → ⊥
below_none rows k e low = false≢true (sym low.2 ∙ not_below_none e.0.1)

-- and all are from it on
pub from_all : (rows : Rows) (k : Kind) → rows_from rows k [] [] ≡ rows_under rows k []
from_all rows k = each (rows_under rows k [])
  where
    each : (es : List (RowKey × Row)) → filter (λ e. is_ge (text_cmp e.0.1 [])) es ≡ es
    each [] = refl
    each (e ∷ es) =
        ap (λ b. cond b (e ∷ filter (λ f. is_ge (text_cmp f.0.1 [])) es)
        (filter (λ f. is_ge (text_cmp f.0.1 [])) es)) (not_below_none e.0.1)
        ∙ ap (λ l. e ∷ l) (each es)

module _ (rows : Rows) (k : Kind) (from : Text) (count : ℕ) (page : List (RowKey × Row))
    (is : page ≡ take count (rows_from rows k [] from)) where
  -- its rows are numbered from those below it on
  pub page_can : (before : ℕ) → before + length (rows_from rows k [] from) ≡ length (rows_under rows k [])
      → CanBeWalked rows before page
  page_can before so =
      record {
        numbered = λ i d below.
            let e = get_or page i d in
            let row = in_page rows k from count page is e (Contains-get_or page i d below) in
            record {
              is_row = row.0;
              place = number_here rows k from count page is before so i d below
                  ∙ (λ j. length (rows_upto rows (sym row.1 j) [] e.0.1));
            };
        apart = sorted_apart page _ (page_sorted rows k from count page is);
      }

  -- they are of the kind, and are not below it
  pub page_kind : (e : RowKey × Row) → Contains page e → IsOfKind rows k e
  page_kind e has = let row = in_page rows k from count page is e has in (row.0, row.1)

  pub page_apart : (d e : RowKey × Row) → IsBelow rows k from d → Contains page e → e.0 ≢ d.0
  page_apart d e low has same =
      let row = in_page rows k from count page is e has in
      false≢true (sym low.2 ∙ sym (ap (λ (x : RowKey). is_ge (text_cmp x.1 from)) same) ∙ row.2)

  -- a page that is not full has all others
  pub page_ends : length page < count → (e : RowKey × Row) → IsOfKind rows k e → IsBelow rows k from e ⊎ Contains page e
  page_ends short e of =
      let key : (k, e.0.1) ≡ e.0 = λ i. (sym of.1 i, e.0.1) in
      elim (is_ge (text_cmp e.0.1 from))
      as (λ v. is_ge (text_cmp e.0.1 from) ≡ v → IsBelow rows k from e ⊎ Contains page e) [
        | true ↦ λ at. inr (subst (λ (x : RowKey). Contains page (x, e.1)) key
            (short_page rows k from count page is short e.0.1 e.1
            (subst (λ (x : RowKey). table_of rows x.0 x.1 ≡ Some e.1) (sym key) of.0) at))
        | false ↦ λ low. inl (of.0, of.1, low)
      ] refl

  -- and any other has those below the least text above its last
  module _ (last : RowKey × Row) (ends : IsLast page last) where
    abbrev next : Text
    next = last.0.1 ++ 0 ∷ []

    pub below_more : (e : RowKey × Row) → IsBelow rows k from e → IsBelow rows k next e
    below_more e low = (
      low.0,
      low.1,
      elim (is_ge (text_cmp e.0.1 next))
          as (λ v. is_ge (text_cmp e.0.1 next) ≡ v → is_ge (text_cmp e.0.1 next) ≡ false) [
            | true ↦ λ at. absurd (false≢true (sym low.2 ∙ above_from rows k from count page is last ends e.0.1 at))
            | false ↦ λ no. no
          ] refl,
    )

    pub page_below : (e : RowKey × Row) → Contains page e → IsBelow rows k next e
    page_below e has =
        let row = in_page rows k from count page is e has in
        (row.0, row.1, page_upto rows k from count page is last ends e has)

    pub below_parts : (e : RowKey × Row) → IsBelow rows k next e → IsBelow rows k from e ⊎ Contains page e
    below_parts e low = by page refl
      where
        by : (es : List (RowKey × Row)) → page ≡ es → IsBelow rows k from e ⊎ Contains page e
        by [] none = absurd (none-some last (sym (ap (λ l. slice_get l (length l - 1)) none) ∙ ends))
        by (x ∷ xs) begins =
            let is_last : last ≡ last_of key_cmp key_cmp_total x xs =
            same_Some _ _ (sym ends ∙ ap (λ l. slice_get l (length l - 1)) begins
            ∙ last_got key_cmp key_cmp_total x xs) in
            let key : (k, e.0.1) ≡ e.0 = λ i. (sym low.1 i, e.0.1) in
            elim (is_ge (text_cmp e.0.1 from))
            as (λ v. is_ge (text_cmp e.0.1 from) ≡ v → IsBelow rows k from e ⊎ Contains page e) [
              | true ↦ λ at. inr (subst (λ (x : RowKey). Contains page (x, e.1)) key
                  (long_page rows k from count page is x xs begins e.0.1 e.1
                  (subst (λ (x : RowKey). table_of rows x.0 x.1 ≡ Some e.1) (sym key) low.0) at
                  (subst (λ (l : RowKey × Row). is_ge (text_cmp e.0.1 (l.0.1 ++ 0 ∷ [])) ≡ false) is_last low.2)))
              | false ↦ λ under. inl (low.0, low.1, under)
            ] refl

    -- as many are below it
    pub counted_on : (before : ℕ) → before + length (rows_from rows k [] from) ≡ length (rows_under rows k [])
        → 0 < length page
        → before + length page + length (rows_from rows k [] next) ≡ length (rows_under rows k [])
    counted_on before so some =
        let n = length page - 1 in
        let here : n < length page = omega (arith, some) in
        let at : get_or page n last ≡ last = get_or_from_slice_get page n last last ends in
        let left = left_above rows k from count page is before so n last here in
        let same : length (rows_from rows k [] ((get_or page n last).0.1 ++ 0 ∷ []))
        ≡ length (rows_from rows k [] next) =
        ap (λ (l : RowKey × Row). length (rows_from rows k [] (l.0.1 ++ 0 ∷ []))) at in
        omega (arith, some, left, same)

-- ---- kinds

numbered_from : ℕ → List Kind → Bool
numbered_from n [] = true
numbered_from n (k ∷ ks) = (kind_number k == n) && numbered_from (suc n) ks

number_at : (n : ℕ) (ks : List Kind) → numbered_from n ks ≡ true → (i : ℕ) (d : Kind) → i < length ks
    → kind_number (get_or ks i d) ≡ i + n
unfolding numbered_from
number_at n [] h i d below = absurd (omega (arith, below))
number_at n (k ∷ ks) h zero d below =
    let first : kind_number k ≡ n = eqb-true (kind_number k) n (and_parts _ _ h).0 in omega (arith, first)
number_at n (k ∷ ks) h (suc i) d below =
    let later : kind_number (get_or ks i d) ≡ i + suc n =
    number_at (suc n) ks (and_parts (kind_number k == n) _ h).1 i d (omega (arith, below)) in omega (arith, later)

numbered_apart : (ks : List Kind) → numbered_from 1 ks ≡ true → AreApart (λ k. k) ks
numbered_apart ks h i j d e before below same =
    let first = number_at 1 ks h i d (omega (arith, before, below)) in
    let second = number_at 1 ks h j e below in
    let one = ap kind_number same in omega (arith, first, second, one, before)

pub kinds_apart : AreApart (λ k. k) all_kinds
unfolding numbered_from
kinds_apart = numbered_apart all_kinds refl
