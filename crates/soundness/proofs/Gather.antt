-- Finite maps that are gathered from rows.
use Rattle.std.proofs.Common.{◌≡◌, ◌||◌, ◌∷◌, List, [], map, Bool, true, false, cond, Option, Some, None, option_map}
use Rattle.broker_model.specs.Words.{is_some, Ordering, IsTotalOrder, eq_by_cmp_equiv, nat_list_cmp_total, FinMap}
use Rattle.broker_model.specs.Words.{IsAntisymmetric, get, insert, empty, entries, get-empty, get-insert}
use Rattle.broker_model.specs.Words.{contains_key-keys, slice_cmp-IsAntisymmetric, nat_cmp-IsAntisymmetric, list_any}
use Rattle.broker_model.specs.Words.{eq_by_cmp, refl, sym, ◌∙◌, ap, subst, inl, inr, false≢true, or_cases, or_right}
use Rattle.broker_model.specs.Words.{none-some, same_Some, tells_apart, Text, text_cmp, Map, Kind, Row, RowKey, key_cmp}
use Rattle.broker_model.specs.Words.{key_cmp_exact, Rows}
use Rattle.soundness.specs.Words.{IsOf}

-- ---- maps of what a function has at keys

nothing : {X : Type 0} (b : Bool) (o : Option X) → o ≡ None → cond b o None ≡ None
nothing true o none = none
nothing false o none = refl

module _ {K X : Type 0} {R : K → K → Ordering} where
  abbrev with_value : Option X → K → FinMap R X → FinMap R X
  with_value None k m = m
  with_value (Some x) k m = insert m k x

  -- the map of what is read at the keys
  abbrev pub tabulate : (K → Option X) → List K → FinMap R X
  tabulate read [] = empty
  tabulate read (k ∷ ks) = with_value (read k) k (tabulate read ks)

  module _ (o : IsTotalOrder R) (exact : IsAntisymmetric R) (read : K → Option X) where
    one_more : (q k : K) (m : FinMap R X) (any : Bool) → get m q ≡ cond any (read q) None
        → get (with_value (read k) k m) q ≡ cond (eq_by_cmp R q k || any) (read q) None
    one_more q k m any rest =
        elim (read k)
        as (λ r. read k ≡ r → get (with_value r k m) q ≡ cond (eq_by_cmp R q k || any) (read q) None) [
          | None ↦ λ none. rest ∙ elim (eq_by_cmp R q k)
              as (λ b. eq_by_cmp R q k ≡ b → cond any (read q) None ≡ cond (b || any) (read q) None) [
                | false ↦ λ _. refl
                | true ↦ λ at.
                    let gone : read q ≡ None = ap read (tells_apart exact q k at) ∙ none in
                    nothing any (read q) gone ∙ sym gone
              ] refl
          | Some x ↦ λ is. get-insert o m k x q ∙ elim (eq_by_cmp R q k)
              as (λ b. eq_by_cmp R q k ≡ b → cond b (Some x) (get m q) ≡ cond (b || any) (read q) None) [
                | false ↦ λ _. rest
                | true ↦ λ at. sym is ∙ ap read (sym (tells_apart exact q k at))
              ] refl
        ] refl

    -- it has what is read at the keys, and nothing else
    tabulated : (ks : List K) (q : K) → get (tabulate read ks) q ≡ cond (list_any (eq_by_cmp R q) ks) (read q) None
    tabulated [] q = get-empty R q
    tabulated (k ∷ ks) q = one_more q k (tabulate read ks) (list_any (eq_by_cmp R q) ks) (tabulated ks q)

-- ---- maps of what a function has at keys that rows tell

among : {K : Type 0} {R : K → K → Ordering} → IsTotalOrder R
    → (tell : RowKey → K) (es : List (RowKey × Row)) (key : RowKey)
    → list_any (eq_by_cmp key_cmp key) (map (λ e. e.0) es) ≡ true
    → list_any (eq_by_cmp R (tell key)) (map (λ e. tell e.0) es) ≡ true
among {R = R} o tell [] key h = absurd (false≢true h)
among {R = R} o tell (e ∷ es) key h = elim (or_cases _ _ h) [
  | inl at ↦
      let here : eq_by_cmp R (tell key) (tell e.0) ≡ true =
      ap (λ k. eq_by_cmp R (tell key) (tell k)) (sym (tells_apart key_cmp_exact key e.0 at))
      ∙ (eq_by_cmp_equiv o).refl (tell key) in
      ap (λ b. b || list_any (eq_by_cmp R (tell key)) (map (λ e. tell e.0) es)) here
  | inr later ↦ or_right _ _ (among o tell es key later)
]

-- what is read at a key is read where a row tells the key
abbrev pub IsToldByRows : {K X : Type 0} → Rows → (RowKey → K) → (K → Option X) → Type 0
IsToldByRows {K} {X} rows tell read =
    (k : K) (x : X) → read k ≡ Some x
    → (key : RowKey) × (row : Row) × (get rows key ≡ Some row) × (tell key ≡ k)

module _ {K X : Type 0} {R : K → K → Ordering} where
  -- the map of what is read at the keys that the rows tell
  pub gather : Rows → (RowKey → K) → (K → Option X) → FinMap R X
  gather rows tell read = tabulate read (map (λ e. tell e.0) (entries rows))

  -- then the map has what is read
  pub get-gather : IsTotalOrder R → IsAntisymmetric R → (rows : Rows) (tell : RowKey → K) (read : K → Option X)
      → IsToldByRows rows tell read → (k : K) → get (gather rows tell read) k ≡ read k
  unfolding gather
  get-gather o exact rows tell read told k = tabulated o exact read keys k ∙ by (read k) refl
    where
      keys : List K
      keys = map (λ e. tell e.0) (entries rows)

      by : (r : Option X) → read k ≡ r → cond (list_any (eq_by_cmp R k) keys) r None ≡ r
      by None none = nothing (list_any (eq_by_cmp R k) keys) None refl
      by (Some x) is =
          let from = told k x is in
          let met : list_any (eq_by_cmp R k) keys ≡ true =
          ap (λ q. list_any (eq_by_cmp R q) keys) (sym from.3)
          ∙ among o tell (entries rows) from.0 (sym (contains_key-keys rows from.0) ∙ ap is_some from.2) in
          ap (λ b. cond b (Some x) None) met

-- texts that compare alike are one
pub text_exact : IsAntisymmetric text_cmp
text_exact = slice_cmp-IsAntisymmetric nat_cmp-IsAntisymmetric

-- ---- the records of the rows of a kind

module _ {X : Type 0} (rows : Rows) (k : Kind) (row_of : X → Row) (P : Text → X → Type 0)
    (each : (q : Text) (row : Row) → get rows (k, q) ≡ Some row → IsOf row_of (P q) row) where
  abbrev pick : (q : Text) (o : Option Row) → get rows (k, q) ≡ o → Option X
  pick q None e = None
  pick q (Some row) e = Some (each q row e).0

  picked : (q : Text) (o : Option Row) (e : get rows (k, q) ≡ o) → o ≡ option_map row_of (pick q o e)
  picked q None e = refl
  picked q (Some row) e = ap Some (each q row e).2

  good : (q : Text) (o : Option Row) (e : get rows (k, q) ≡ o) (x : X) → pick q o e ≡ Some x → P q x
  good q None e x is = absurd (none-some _ is)
  good q (Some row) e x is = subst (P q) (same_Some _ _ is) (each q row e).1

  known : (q : Text) (o : Option Row) (e : get rows (k, q) ≡ o) (x : X) → pick q o e ≡ Some x
      → (row : Row) × (get rows (k, q) ≡ Some row)
  known q None e x is = absurd (none-some _ is)
  known q (Some row) e x is = (row, e)

  abbrev reading : Text → Option X
  reading q = pick q (get rows (k, q)) refl

  -- the record of each key
  pub records : Map X
  records = gather rows (λ key. key.1) reading

  get-records : (q : Text) → get records q ≡ reading q
  unfolding records
  get-records q =
      get-gather nat_list_cmp_total text_exact rows (λ key. key.1) reading
      (λ q x is. let row = known q (get rows (k, q)) refl x is in ((k, q), row.0, row.1, refl)) q

  -- the rows are those of the records
  pub told : (q : Text) → get rows (k, q) ≡ option_map row_of (get records q)
  told q = picked q (get rows (k, q)) refl ∙ ap (option_map row_of) (sym (get-records q))

  -- of each of which P holds
  pub holds : (q : Text) (x : X) → get records q ≡ Some x → P q x
  holds q x is = good q (get rows (k, q)) refl x (sym (get-records q) ∙ is)
