-- What is listed under a prefix, as a map from keys of one kind (this project's).
use Rattle.std.specs.Prelude.{◌≡◌, ◌&&◌, ◌==◌, ◌∷◌, List, [], map, filter, nat_eq, Bool, true, false, cond, Some, None}
use Rattle.broker_types.specs.Words.{T, Equal, nat_cmp, is_eq, is_lt, ordering_then, nat_cmp_is, get, entries, find}
use Rattle.broker_types.specs.Words.{is_sorted, get-entries, entries_sorted, find-where_key, is_sorted-where_key}
use Rattle.broker_types.specs.Words.{below_all, starts_with, refl, sym, ◌∙◌, ap, subst, and_parts, eqb-true, and_from}
use Rattle.broker_types.specs.Words.{Text, text_cmp}
use Rattle.records.specs.declared.kind.Kind.{Kind}
use Rattle.records.specs.declared.row.Row.{Row}
use Rattle.records.specs.Kind.{RowKey, key_cmp, is_of_kind, kind_number}
use Rattle.records.specs.Transaction.{Rows, rows_under}
use Rattle.records.specs.KeyLaws.{key_cmp_exact}
use Rattle.records.specs.SplitLaws.{eqb_self}

-- rows by their keys alone
abbrev pub named : List (RowKey × Row) → List (Text × Row)
named es = map (λ e. (e.0.1, e.1)) es

-- each is of the kind
abbrev pub all_of : Kind → List (RowKey × Row) → Bool
all_of kind [] = true
all_of kind (e ∷ es) = is_of_kind kind e.0 && all_of kind es

module _ (kind : Kind) where
  cmp-of : (k : Kind) (q t : Text) → (kind_number k == kind_number kind) ≡ true
      → key_cmp (kind, q) (k, t) ≡ text_cmp q t
  cmp-of k q t h =
      ap (λ n. ordering_then (nat_cmp (kind_number kind) n) (text_cmp q t))
      (eqb-true (kind_number k) (kind_number kind) h)
      ∙ ap (λ o. ordering_then o (text_cmp q t)) (sym (nat_cmp_is (kind_number kind) (kind_number kind) Equal refl))

  cmp-both : (j k : Kind) (q t : Text) → (kind_number j == kind_number kind) ≡ true
      → (kind_number k == kind_number kind) ≡ true → key_cmp (j, q) (k, t) ≡ text_cmp q t
  cmp-both j k q t g h =
      ap (λ n. ordering_then (nat_cmp n (kind_number k)) (text_cmp q t))
      (eqb-true (kind_number j) (kind_number kind) g) ∙ cmp-of k q t h

  find-named : (q : Text) (es : List (RowKey × Row)) → all_of kind es ≡ true
      → find text_cmp q (named es) ≡ find key_cmp (kind, q) es
  find-named q [] h = refl
  find-named q (e ∷ es) h =
      let parts = and_parts _ _ h in
      λ i. cond (is_eq (sym (cmp-of e.0.0 q e.0.1 parts.0) i)) (Some e.1) (find-named q es parts.1 i)

  below-named : (e : RowKey × Row) (es : List (RowKey × Row)) → is_of_kind kind e.0 ≡ true
      → all_of kind es ≡ true → below_all text_cmp e.0.1 (named es) ≡ below_all key_cmp e.0 es
  below-named e [] g h = refl
  below-named e (f ∷ es) g h =
      let parts = and_parts _ _ h in
      λ i. is_lt (sym (cmp-both e.0.0 f.0.0 e.0.1 f.0.1 g parts.0) i) && below-named e es g parts.1 i

  sorted-named : (es : List (RowKey × Row)) → all_of kind es ≡ true
      → is_sorted text_cmp (named es) ≡ is_sorted key_cmp es
  sorted-named [] h = refl
  sorted-named (e ∷ es) h =
      let parts = and_parts _ _ h in
      λ i. below-named e es parts.0 parts.1 i && sorted-named es parts.1 i

  module _ (prefix : Text) where
    abbrev under : RowKey → Bool
    under x = is_of_kind kind x && starts_with nat_eq x.1 prefix

    filter_of : (es : List (RowKey × Row)) → all_of kind (filter (λ e. under e.0) es) ≡ true
    filter_of [] = refl
    filter_of (e ∷ es) =
        elim (under e.0) as (λ b. under e.0 ≡ b
        → all_of kind (cond b (e ∷ filter (λ e. under e.0) es) (filter (λ e. under e.0) es)) ≡ true) [
          | true ↦ λ is. and_from _ _ (and_parts _ _ is).0 (filter_of es)
          | false ↦ λ _. filter_of es
        ] refl

    -- the listed rows rise by their keys
    pub listed-sorted : (rows : Rows) → T (is_sorted text_cmp (named (rows_under rows kind prefix)))
    listed-sorted rows =
        subst T (sym (sorted-named (rows_under rows kind prefix) (filter_of (entries rows))))
        (is_sorted-where_key key_cmp under (entries rows) (entries_sorted rows))

    -- and have the row at each key that begins with the prefix
    pub find-listed : (rows : Rows) (q : Text)
        → find text_cmp q (named (rows_under rows kind prefix))
        ≡ cond (starts_with nat_eq q prefix) (get rows (kind, q)) None
    find-listed rows q =
        find-named q (rows_under rows kind prefix) (filter_of (entries rows))
        ∙ find-where_key key_cmp under (kind, q) (λ x e. ap under (sym (key_cmp_exact (kind, q) x e))) (entries rows)
        ∙ ap (λ b. cond (b && starts_with nat_eq q prefix) (find key_cmp (kind, q) (entries rows)) None)
        (eqb_self (kind_number kind))
        ∙ ap (λ o. cond (starts_with nat_eq q prefix) o None) (sym (get-entries rows (kind, q)))

-- the keys of what is listed are its names
pub names_are : (es : List (RowKey × Row))
    → map (λ (e : RowKey × Row). e.0.1) es ≡ map (λ (e : Text × Row). e.0) (named es)
names_are [] = refl
names_are (e ∷ es) = ap (λ z. e.0.1 ∷ z) (names_are es)
