-- The rows of a kind by pages: what a page has.
use Rattle.std.proofs.Common.{◌≡◌, ◌<◌, ◌&&◌, ◌++◌, ◌∷◌, [], ℕ, List, take, drop, length, min, nat_eq}
use Rattle.broker_model.specs.Words.{Bool, true, false, cond, T, Some, None, Contains, eq_by_cmp_equiv, nat_cmp_total}
use Rattle.broker_model.specs.Words.{get, entries, is_sorted, entries_sorted, is_sorted-where_key, starts_with, is_ge}
use Rattle.broker_model.specs.Words.{is_le, ordering_then, sym, ◌∙◌, ap, subst, arith, and_parts}
use Rattle.broker_model.specs.Words.{not-false, take-append-drop, take_all, length-take, All-contains}
use Rattle.broker_model.specs.Words.{All-contains_itself, Contains-append_left, Contains-append_right, Text, text_cmp}
use Rattle.broker_model.specs.Words.{is_equal, T_true, Kind, Row, Contains-filter, kept_cases, passing_whole, found_in}
use Rattle.broker_model.specs.Words.{in_found, RowKey, key_cmp, kind_number, is_of_kind, key_cmp_total, key_cmp_exact}
use Rattle.broker_model.specs.Words.{same_kind, just_above, last_of, page_finds, eqb_self}
use Rattle.broker_model.specs.Words.{Rows, rows_under, rows_from}
use Rattle.std.specs.FinMap.{find}

-- keys of one kind are in the order of their texts
pub one_kind : (k : Kind) (q t : Text) → key_cmp (k, q) (k, t) ≡ text_cmp q t
one_kind k q t =
    ap (λ o. ordering_then o (text_cmp q t)) (is_equal _ ((eq_by_cmp_equiv nat_cmp_total).refl (kind_number k)))

-- the last of a list is in it
last_in : (e : RowKey × Row) (es : List (RowKey × Row)) → Contains (e ∷ es) (last_of key_cmp key_cmp_total e es)
last_in e [] = All-contains_itself (e ∷ []) 0 e (omega arith)
last_in e (f ∷ fs) = Contains-append_right (e ∷ []) (f ∷ fs) _ (last_in f fs)

-- ---- a page

module _ (rows : Rows) (k : Kind) (from : Text) (count : ℕ) (page : List (RowKey × Row))
    (is : page ≡ take count (rows_from rows k [] from)) where
  abbrev pub listed : List (RowKey × Row)
  listed = rows_from rows k [] from

  abbrev pub is_under : RowKey × Row → Bool
  is_under e = is_of_kind k e.0 && starts_with nat_eq e.0.1 []

  abbrev pub is_from : RowKey × Row → Bool
  is_from e = is_ge (text_cmp e.0.1 from)

  -- a row from the key on is listed
  in_list : (q : Text) (row : Row) → get rows (k, q) ≡ Some row → is_ge (text_cmp q from) ≡ true
      → Contains listed ((k, q), row)
  in_list q row here at =
      Contains-filter is_from (rows_under rows k []) ((k, q), row)
      (passing_whole rows is_under (k, q) row here
      (ap (λ v. v && starts_with nat_eq q []) (eqb_self (kind_number k)))) at

  pub split : page ++ drop count listed ≡ listed
  split = ap (λ es. es ++ drop count listed) is ∙ take-append-drop count listed

  pub listed_sorted : T (is_sorted key_cmp listed)
  listed_sorted =
      is_sorted-where_key key_cmp (λ x. is_ge (text_cmp x.1 from)) (rows_under rows k [])
      (is_sorted-where_key key_cmp (λ x. is_of_kind k x && starts_with nat_eq x.1 []) (entries rows)
      (entries_sorted rows))

  -- a page that is not full has all
  pub short_page : length page < count → (q : Text) (row : Row) → get rows (k, q) ≡ Some row
      → is_ge (text_cmp q from) ≡ true → Contains page ((k, q), row)
  short_page short q row here at =
      let long : length page ≡ min count (length listed) = ap length is ∙ length-take count listed in
      let whole : page ≡ listed = is ∙ take_all count listed (omega (arith, long, short)) in
      subst (λ es. Contains es ((k, q), row)) (sym whole) (in_list q row here at)

  pub listed_kind : (e : RowKey × Row) → Contains listed e → is_of_kind k e.0 ≡ true
  listed_kind e has =
      let under = kept_cases is_from (rows_under rows k []) in
      let each = kept_cases is_under (entries rows) in
      (and_parts _ _ (All-contains (λ f. Contains (entries rows) f × (is_under f ≡ true)) (rows_under rows k []) e each
      (All-contains (λ f. Contains (rows_under rows k []) f × (is_from f ≡ true)) listed e under has).0).1).0

  -- a page has all rows up to the last of it
  module _ (first : RowKey × Row) (others : List (RowKey × Row)) (begins : page ≡ first ∷ others) where
    abbrev last : RowKey × Row
    last = last_of key_cmp key_cmp_total first others

    whole : first ∷ others ++ drop count listed ≡ listed
    whole = ap (λ es. es ++ drop count listed) (sym begins) ∙ split

    last_kind : last.0.0 ≡ k
    last_kind =
        same_kind last.0.0 k (listed_kind last
        (subst (λ es. Contains es last) whole
        (Contains-append_left (first ∷ others) (drop count listed) last (last_in first others))))

    pub long_page : (q : Text) (row : Row) → get rows (k, q) ≡ Some row → is_ge (text_cmp q from) ≡ true
        → is_ge (text_cmp q (last.0.1 ++ 0 ∷ [])) ≡ false → Contains page ((k, q), row)
    long_page q row here at low =
        let key : last.0 ≡ (k, last.0.1) = λ i. (last_kind i, last.0.1) in
        let upto : is_le (key_cmp (k, q) last.0) ≡ true =
        ap (λ x. is_le (key_cmp (k, q) x)) key ∙ ap is_le (one_kind k q last.0.1)
        ∙ not-false _ (sym (just_above q last.0.1) ∙ low) in
        let sorted : is_sorted key_cmp (first ∷ others ++ drop count listed) ≡ true =
        ap (is_sorted key_cmp) whole ∙ T_true _ listed_sorted in
        let all : find key_cmp (k, q) (first ∷ others ++ drop count listed) ≡ Some row =
        ap (find key_cmp (k, q)) whole
        ∙ in_found key_cmp key_cmp_total listed listed_sorted ((k, q), row) (in_list q row here at) in
        let found : find key_cmp (k, q) (first ∷ others) ≡ Some row =
        page_finds key_cmp key_cmp_total first others (drop count listed) sorted (k, q)
        ∙ ap (λ b. cond b (find key_cmp (k, q) (first ∷ others ++ drop count listed)) None) upto ∙ all in
        subst (λ es. Contains es ((k, q), row)) (sym begins)
        (found_in key_cmp key_cmp_exact (k, q) row (first ∷ others) found)
