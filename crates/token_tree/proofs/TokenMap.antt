-- The rows of tokens as a map, and what is said of them one by one.
use Rattle.std.proofs.Common.{◌≡◌, ◌∷◌, ◌||◌, ◌&&◌, List, [], Bool, true, false, cond, map, filter, nat_eq, Option, All}
use Rattle.records.specs.Words.{Some, None, option_map, nat_list_cmp_total, find, from_entries, get-from_entries}
use Rattle.records.specs.Words.{find-where_key, AllByRecursion, list_any, starts_with, refl, sym, ◌∙◌, ap, subst}
use Rattle.records.specs.Words.{lookup, All-head, All-tail, none-some, same_Some, false≢true, and_parts, Text, text_cmp}
use Rattle.records.specs.Words.{same, same_true, Map, get, entries, get-lookup, each_entry, RowKey, key_cmp, is_of_kind}
use Rattle.records.specs.Words.{key_cmp_exact, same_kind, rows_under-listing, table_of, Rows, rows_under}
use Rattle.std.specs.FinMap as fin
use Rattle.records.specs.declared.kind.Kind.TheVariants as kind
use Rattle.token_tree.specs.Words.{Row}

-- ---- the map

abbrev unplaced : RowKey × Row → Text × Row
unplaced e = (e.0.1, e.1)

abbrev pub row_node : Text × Row → RowKey × Row
row_node e = ((kind.Token, e.0), e.1)

abbrev takes : RowKey → Bool
takes x = is_of_kind kind.Token x && starts_with nat_eq x.1 []

is_token : (x : RowKey) → takes x ≡ true → x.0 ≡ kind.Token
is_token x h = same_kind x.0 kind.Token (and_parts (is_of_kind kind.Token x) _ h).0

found_listed : (q : Text) (es : List (RowKey × Row))
    → find key_cmp (kind.Token, q) (filter (λ e. takes e.0) es)
    ≡ find text_cmp q (map unplaced (filter (λ e. takes e.0) es))
found_listed q [] = refl
found_listed q (e ∷ es) =
    elim (takes e.0) as (λ v. takes e.0 ≡ v
    → find key_cmp (kind.Token, q) (cond v (e ∷ filter (λ e. takes e.0) es) (filter (λ e. takes e.0) es))
    ≡ find text_cmp q (map unplaced (cond v (e ∷ filter (λ e. takes e.0) es) (filter (λ e. takes e.0) es)))) [
      | true ↦ λ is. ap (λ k. find key_cmp (kind.Token, q) (((k, e.0.1), e.1) ∷ filter (λ e. takes e.0) es))
          (is_token e.0 is)
          ∙ ap (cond _ (Some e.1)) (found_listed q es)
      | false ↦ λ _. found_listed q es
    ] refl

module _ (rows : Rows) where
  -- the rows of tokens by their texts
  abbrev pub token_map : Map Row
  token_map = from_entries (map unplaced (rows_under rows kind.Token []))

  pub at_token : (q : Text) → get token_map q ≡ table_of rows kind.Token q
  at_token q =
      get-from_entries nat_list_cmp_total _ q
      ∙ sym (found_listed q (fin.entries rows))
      ∙ find-where_key key_cmp takes (kind.Token, q) (λ x e. ap takes (sym (key_cmp_exact (kind.Token, q) x e)))
      (fin.entries rows)
      ∙ sym (fin.get-entries rows (kind.Token, q))

  same_row : (o : Option Row) → option_map (λ (r : Row). r) o ≡ o
  same_row None = refl
  same_row (Some r) = refl

  -- the rows of tokens in the order of their texts
  pub listed_tokens : rows_under rows kind.Token [] ≡ map row_node (entries token_map)
  listed_tokens = rows_under-listing kind.Token (λ (q : Text) (r : Row). r) rows token_map
      (λ q. sym (at_token q) ∙ sym (same_row (get token_map q)))

  -- ---- one row after the other

  -- what holds of each row of a token
  pub each_token : (P : RowKey × Row → Type 0)
      → ((t : Text) (r : Row) → table_of rows kind.Token t ≡ Some r → P (row_node (t, r)))
      → AllByRecursion P (rows_under rows kind.Token [])
  each_token P h = subst (AllByRecursion P) (sym listed_tokens)
      (walk (entries token_map) (each_entry (λ e. P (row_node e)) token_map (λ t r is. h t r (sym (at_token t) ∙ is))))
    where
      walk : (es : List (Text × Row)) → All (λ e. P (row_node e)) es → AllByRecursion P (map row_node es)
      walk [] a = tt
      walk (e ∷ es) a = (All-head (λ e. P (row_node e)) e es a, walk es (All-tail (λ e. P (row_node e)) e es a))

  -- and the other way round
  pub token_each : (P : RowKey × Row → Type 0) (t : Text) (r : Row) → table_of rows kind.Token t ≡ Some r
      → AllByRecursion P (rows_under rows kind.Token []) → P (row_node (t, r))
  token_each P t r is all =
      walk (entries token_map) (sym (get-lookup token_map t) ∙ at_token t ∙ is)
      (subst (AllByRecursion P) listed_tokens all)
    where
      walk : (es : List (Text × Row)) → lookup (same t) es ≡ Some r → AllByRecursion P (map row_node es)
          → P (row_node (t, r))
      walk [] e a = absurd (none-some _ e)
      walk (e ∷ es) found a =
          elim (same t e.0) as (λ v. same t e.0 ≡ v → cond v (Some e.1) (lookup (same t) es) ≡ Some r
          → P (row_node (t, r))) [
            | true ↦ λ at one. subst P (λ i. row_node (sym (same_true t e.0 at) i, (same_Some _ _ one) i)) a.0
            | false ↦ λ _ rest. walk es rest a.1
          ] refl found

  -- a test that no row of a token passes
  pub no_token_passes : (p : RowKey × Row → Bool)
      → ((t : Text) (r : Row) → table_of rows kind.Token t ≡ Some r → p (row_node (t, r)) ≡ false)
      → list_any p (rows_under rows kind.Token []) ≡ false
  no_token_passes p h = walk (rows_under rows kind.Token []) (each_token (λ e. p e ≡ false) h)
    where
      walk : (es : List (RowKey × Row)) → AllByRecursion (λ e. p e ≡ false) es → list_any p es ≡ false
      walk [] a = refl
      walk (e ∷ es) a = (λ i. a.0 i || list_any p es) ∙ walk es a.1

  -- a test that one passes
  pub token_passes : (p : RowKey × Row → Bool) (t : Text) (r : Row) → table_of rows kind.Token t ≡ Some r
      → p (row_node (t, r)) ≡ true
      → list_any p (rows_under rows kind.Token []) ≡ true
  token_passes p t r is passes = elim (list_any p (rows_under rows kind.Token [])) as
      (λ v. list_any p (rows_under rows kind.Token []) ≡ v → v ≡ true) [
        | true ↦ λ _. refl
        | false ↦ λ none. absurd
            (false≢true (sym (token_each (λ e. p e ≡ false) t r is (walk (rows_under rows kind.Token []) none))
            ∙ passes))
      ] refl
    where
      walk : (es : List (RowKey × Row)) → list_any p es ≡ false → AllByRecursion (λ e. p e ≡ false) es
      walk [] h = tt
      walk (e ∷ es) h = (left (p e) (list_any p es) h, walk es (right (p e) (list_any p es) h))
        where
          left : (a b : Bool) → (a || b) ≡ false → a ≡ false
          left true b h = h
          left false b h = refl

          right : (a b : Bool) → (a || b) ≡ false → b ≡ false
          right true b h = absurd (false≢true (sym h))
          right false b h = h
