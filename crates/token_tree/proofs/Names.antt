-- The rows of accessors, and the tokens that they name.
use Rattle.std.proofs.Common.{◌≡◌, ◌∷◌, ◌++◌, if◌then◌else◌, List, [], Bool, true, false, cond, Option, Some, None, map}
use Rattle.records.specs.Words.{option_map, option_and_then, All, filter, nat_list_cmp_total, find, from_entries}
use Rattle.records.specs.Words.{get-from_entries, get-entries, entries_sorted, slice_cmp-IsAntisymmetric}
use Rattle.records.specs.Words.{nat_cmp-IsAntisymmetric, find-where_key, is_sorted-where_key, where_key, AllByRecursion}
use Rattle.records.specs.Words.{option_map_or, eq_by_cmp, refl, sym, ◌∙◌, ap, subst, append_assoc, append-nil, All-head}
use Rattle.records.specs.Words.{All-tail, Text, text_cmp, same, same-text_cmp, same_self, same_true, same_equiv, Map}
use Rattle.records.specs.Words.{get, entries, first_where, with_values, listing_is, each_entry, first_where_is}
use Rattle.records.specs.Words.{first_where_only, mapped, OnePlaceEach, Token, Broker, Waiting, RowKey}
use Rattle.records.specs.Words.{rows_under-listing, of_tokens, Tells, accessor_row, rows_of, or_else, table_of, Rows}
use Rattle.records.specs.Words.{rows_under}
use Rattle.std.specs.List.{find as first}
use Rattle.records.specs.declared.holder.Holder.TheVariants as holder
use Rattle.records.specs.declared.kind.Kind.TheVariants as kind
use Rattle.token_tree.specs.Words.{Row, names_token_is, IsAccessorRow, Named, named_row, is_of_token, token_of}
use Rattle.token_tree.specs.Words.{names_token, with_accessors, has_accessor, by_accessor, find_accessor, accessors_of}
use Rattle.token_tree.proofs.Removals.{one_accessor}

-- a search by key among entries that are made of a map's
made_found : {X Y : Type 0} (q : Text) (key : X → Text) (value : Text × X → Y) (es : List (Text × X))
    → find text_cmp q (map (λ e. (key e.1, value e)) es) ≡ option_map value (first (λ e. same (key e.1) q) es)
made_found q key value [] = refl
made_found q key value (e ∷ es) =
    ap (λ b. cond b (Some (value e)) (find text_cmp q (map (λ e. (key e.1, value e)) es)))
    (sym (same-text_cmp q (key e.1)) ∙ same_equiv.symm q (key e.1))
    ∙ elim (same (key e.1) q) as (λ b. cond b (Some (value e)) (find text_cmp q (map (λ e. (key e.1, value e)) es))
    ≡ option_map value (cond b (Some e) (first (λ e. same (key e.1) q) es))) [
      | true ↦ refl
      | false ↦ made_found q key value es
    ]

find-append : {X : Type 0} (q : Text) (xs ys : List (Text × X))
    → find text_cmp q (xs ++ ys) ≡ or_else (find text_cmp q xs) (find text_cmp q ys)
find-append q [] ys = refl
find-append q (x ∷ xs) ys =
    ap (cond (eq_by_cmp text_cmp q x.0) (Some x.1)) (find-append q xs ys)
    ∙ elim (eq_by_cmp text_cmp q x.0) as (λ b. cond b (Some x.1) (or_else (find text_cmp q xs) (find text_cmp q ys))
    ≡ or_else (cond b (Some x.1) (find text_cmp q xs)) (find text_cmp q ys)) [
      | true ↦ refl
      | false ↦ refl
    ]

-- the names that a walk collects, listed
pub collected : (es : List (RowKey × Row)) (names : List Text)
    → with_accessors es names ≡ names ++ map (λ e. e.0.1) (filter (λ e. names_token e.1) es)
collected [] names = sym (append-nil names)
collected (e ∷ es) names = elim (names_token e.1) as (λ v. with_accessors es (if v then names ++ e.0.1 ∷ [] else names)
    ≡ names ++ map (λ e. e.0.1) (cond v (e ∷ filter (λ e. names_token e.1) es) (filter (λ e. names_token e.1) es))) [
      | true ↦ collected es (names ++ e.0.1 ∷ [])
          ∙ append_assoc names (e.0.1 ∷ []) (map (λ e. e.0.1) (filter (λ e. names_token e.1) es))
      | false ↦ collected es names
    ]

module _ (b : Broker) where
  -- all accessors
  abbrev pub all_named : Map Named
  all_named =
      from_entries (map (λ e. (e.1.accessor, (e.0, holder.Token))) (entries b.tokens)
      ++ map (λ e. (e.1.accessor, (e.0, holder.WrappingToken))) (entries b.waiting))

  abbrev of_token : Text × Token → Named
  of_token e = (e.0, holder.Token)

  abbrev of_waiting : Text × Waiting → Named
  of_waiting e = (e.0, holder.WrappingToken)

  abbrev token_with : Text → Option (Text × Token)
  token_with q = first_where (has_accessor q) b.tokens

  abbrev waiting_with : Text → Option (Text × Waiting)
  waiting_with q = first_where (λ t (w : Waiting). same w.accessor q) b.waiting

  all_found : (q : Text) → get all_named q ≡ or_else (option_map of_token (token_with q))
      (option_map of_waiting (waiting_with q))
  all_found q =
      get-from_entries nat_list_cmp_total _ q
      ∙ find-append q (map (λ e. (e.1.accessor, of_token e)) (entries b.tokens))
      (map (λ e. (e.1.accessor, of_waiting e)) (entries b.waiting))
      ∙ (λ i. or_else (made_found q (λ (x : Token). x.accessor) of_token (entries b.tokens) i)
      (made_found q (λ (w : Waiting). w.accessor) of_waiting (entries b.waiting) i))

  token_found : (q : Text) → find_accessor b q ≡ option_map (λ e. e.0) (token_with q)
  token_found q = get-from_entries nat_list_cmp_total _ q
      ∙ made_found q (λ (x : Token). x.accessor) (λ e. e.0) (entries b.tokens)

  -- the accessor of a token names it, where no two tokens have one accessor
  pub names_token_of : OnePlaceEach b → (t : Text) (x : Token) → get b.tokens t ≡ Some x
      → find_accessor b x.accessor ≡ Some t
  names_token_of one_place t x is =
      token_found x.accessor
      ∙ ap (option_map (λ e. e.0)) (first_where_only (has_accessor x.accessor) b.tokens t x
      (one_accessor b one_place x.accessor) is (same_self x.accessor))

  -- and what it names has it
  pub named_has : (t accessor : Text) → find_accessor b accessor ≡ Some t → (x : Token) × (get b.tokens t ≡ Some x)
      × (x.accessor ≡ accessor)
  named_has t accessor named =
      let e = mapped (λ e. e.0) (token_with accessor) t (sym (token_found accessor) ∙ named) in
      let is = first_where_is (has_accessor accessor) b.tokens e.0 e.1 in
      (e.0.1, ap (get b.tokens) e.2 ∙ is.0, same_true e.0.1.accessor accessor is.1)

  -- the rows of accessors
  pub row_named : (q : Text) → rows_of b kind.Accessor q ≡ option_map named_row (get all_named q)
  unfolding rows_of
  row_named q = by (token_with q) (waiting_with q) ∙ ap (option_map named_row) (sym (all_found q))
    where
      by : (o : Option (Text × Token)) (w : Option (Text × Waiting))
          → or_else (option_map (λ e. accessor_row e.0 holder.Token) o)
          (option_map (λ e. accessor_row e.0 holder.WrappingToken) w)
          ≡ option_map named_row (or_else (option_map of_token o) (option_map of_waiting w))
      by None None = refl
      by None (Some w) = refl
      by (Some e) w = refl

  pub token_named : (q : Text) → find_accessor b q ≡ option_and_then token_of (get all_named q)
  token_named q = token_found q ∙ by (token_with q) (waiting_with q) ∙ ap (option_and_then token_of) (sym (all_found q))
    where
      by : (o : Option (Text × Token)) (w : Option (Text × Waiting))
          → option_map (λ e. e.0) o ≡ option_and_then token_of
          (or_else (option_map of_token o) (option_map of_waiting w))
      by None None = refl
      by None (Some w) = refl
      by (Some e) w = refl

  -- ---- all accessors of tokens

  abbrev passes : Text → Bool
  passes q = option_map_or (λ (x : Named). is_of_token x.1) (get all_named q) false

  abbrev placed : Text × Named → RowKey × Row
  placed e = ((kind.Accessor, e.0), named_row e.1)

  gathered : (es : List (Text × Named)) → All (λ e. get all_named e.0 ≡ Some e.1) es → (names : List Text)
      → with_accessors (map placed es) names ≡ names ++ map (λ e. e.0) (where_key text_cmp passes es)
  gathered [] all names = sym (append-nil names)
  gathered (e ∷ es) all names =
      ap (λ v. with_accessors (map placed es) (if v then names ++ e.0 ∷ [] else names))
      (names_token_is e.1 ∙ sym (ap (λ o. option_map_or (λ (x : Named). is_of_token x.1) o false)
      (All-head (λ e. get all_named e.0 ≡ Some e.1) e es all)))
      ∙ elim (passes e.0) as (λ v. with_accessors (map placed es) (if v then names ++ e.0 ∷ [] else names)
      ≡ names ++ map (λ e. e.0) (cond v (e ∷ where_key text_cmp passes es) (where_key text_cmp passes es))) [
        | true ↦ gathered es rest (names ++ e.0 ∷ [])
            ∙ append_assoc names (e.0 ∷ []) (map (λ e. e.0) (where_key text_cmp passes es))
        | false ↦ gathered es rest names
      ]
    where
      rest : All (λ e. get all_named e.0 ≡ Some e.1) es
      rest = All-tail (λ e. get all_named e.0 ≡ Some e.1) e es all

  kept_found : (q : Text) → find text_cmp q (where_key text_cmp passes (entries all_named))
      ≡ option_map (λ t. (t, holder.Token)) (get (by_accessor b) q)
  kept_found q =
      find-where_key text_cmp passes q
      (λ x e. ap passes (sym (slice_cmp-IsAntisymmetric nat_cmp-IsAntisymmetric q x e))) (entries all_named)
      ∙ ap (λ o. cond (passes q) o None) (sym (get-entries all_named q))
      ∙ ap (λ o. cond (option_map_or (λ (x : Named). is_of_token x.1) o false) o None) (all_found q)
      ∙ by (token_with q) (waiting_with q)
      ∙ ap (option_map (λ t. (t, holder.Token))) (sym (token_found q))
    where
      by : (o : Option (Text × Token)) (w : Option (Text × Waiting))
          → cond (option_map_or (λ (x : Named). is_of_token x.1)
          (or_else (option_map of_token o) (option_map of_waiting w)) false)
          (or_else (option_map of_token o) (option_map of_waiting w)) None
          ≡ option_map (λ t. (t, holder.Token)) (option_map (λ e. e.0) o)
      by None None = refl
      by None (Some w) = refl
      by (Some e) w = refl

  same_keys : {X Y : Type 0} (f : Text → X → Y) (es : List (Text × X))
      → map (λ e. e.0) (with_values f es) ≡ map (λ e. e.0) es
  same_keys f [] = refl
  same_keys f (e ∷ es) = ap (λ l. e.0 ∷ l) (same_keys f es)

  pub listed_named : (rows : Rows) → Tells of_tokens (table_of rows) b
      → rows_under rows kind.Accessor [] ≡ map placed (entries all_named)
  listed_named rows tells = rows_under-listing kind.Accessor (λ q (x : Named). named_row x) rows all_named
      (λ q. tells kind.Accessor q refl ∙ row_named q)

  pub accessors_listed : (rows : Rows) → Tells of_tokens (table_of rows) b
      → with_accessors (rows_under rows kind.Accessor []) [] ≡ accessors_of b
  accessors_listed rows tells =
      ap (λ es. with_accessors es []) (listed_named rows tells)
      ∙ gathered (entries all_named) (each_entry (λ e. get all_named e.0 ≡ Some e.1) all_named (λ t x is. is)) []
      ∙ ap (map (λ e. e.0))
      (listing_is (λ q t. (t, holder.Token)) (by_accessor b) (where_key text_cmp passes (entries all_named))
      (is_sorted-where_key text_cmp passes (entries all_named) (entries_sorted all_named)) kept_found)
      ∙ same_keys (λ q t. (t, holder.Token)) (entries (by_accessor b))

  -- each can be read
  pub accessors_readable : (rows : Rows) → Tells of_tokens (table_of rows) b
      → AllByRecursion IsAccessorRow (rows_under rows kind.Accessor [])
  accessors_readable rows tells = subst (AllByRecursion IsAccessorRow) (sym (listed_named rows tells))
      (walk (entries all_named))
    where
      walk : (es : List (Text × Named)) → AllByRecursion IsAccessorRow (map placed es)
      walk [] = tt
      walk (e ∷ es) = ((e.1.1, refl), walk es)
