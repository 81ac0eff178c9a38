-- The list of policies, from the rows of policies.
use Rattle.std.proofs.Common.{◌≡◌, ◌∷◌, if◌then◌else◌, List, [], map, refl, sym, ◌∙◌, ap}
use Rattle.records.specs.Words.{nat_list_cmp_total, is_lt, ordering_reverse, by_order, Less, Equal, Greater, Map, put}
use Rattle.records.specs.Words.{entries, keys, Text, text_cmp, keys_under, RowKey, rows_under-listing, policy_row}
use Rattle.records.specs.Words.{table_of, Rows}
use Rattle.std.specs.FinMap as fin
use Rattle.records.specs.declared.kind.Kind.TheVariants as kind
use Rattle.policies.specs.Words.{Row, root, default, listed, ArePolicies, with_name, all_names}

names_of : (es : List (Text × Text))
    → map (λ (e : RowKey × Row). e.0.1) (map (λ (e : Text × Text). ((kind.Policy, e.0), policy_row e.1)) es) ≡ map
    (λ e. e.0) es
names_of [] = refl
names_of (e ∷ es) = ap (λ ns. e.0 ∷ ns) (names_of es)

-- the names of the rows are those of the policies
pub rows_named : (rows : Rows) (policies : Map Text) → ArePolicies (table_of rows) policies
    → keys_under rows kind.Policy [] ≡ keys policies
rows_named rows policies are =
    ap (map (λ (e : RowKey × Row). e.0.1))
    (rows_under-listing kind.Policy (λ (n : Text) (t : Text). policy_row t) rows policies are)
    ∙ names_of (entries policies)

-- a name put in its place, among the keys of entries
put_named : (n x : Text) (es : List (Text × Text))
    → map (λ e. e.0) (fin.put text_cmp n x es) ≡ with_name n (map (λ e. e.0) es)
put_named n x [] = refl
put_named n x (e ∷ es) =
    elim (text_cmp n e.0) as (λ o. map (λ (e : Text × Text). e.0)
    (by_order o ((n, x) ∷ e ∷ es) ((e.0, x) ∷ es) (e ∷ fin.put text_cmp n x es))
    ≡ (if is_lt o then n ∷ e.0 ∷ map (λ e. e.0) es
    else (if is_lt (ordering_reverse o) then e.0 ∷ with_name n (map (λ e. e.0) es) else e.0 ∷ map (λ e. e.0) es))) [
      | Less ↦ refl
      | Equal ↦ refl
      | Greater ↦ ap (λ ns. e.0 ∷ ns) (put_named n x es)
    ]
    ∙ ap (λ o. if is_lt (text_cmp n e.0) then n ∷ e.0 ∷ map (λ e. e.0) es
    else (if is_lt o then e.0 ∷ with_name n (map (λ e. e.0) es) else e.0 ∷ map (λ e. e.0) es))
    (sym (nat_list_cmp_total.antisymm e.0 n))

one_more : (m : Map Text) (n x : Text) → keys (put m n x) ≡ with_name n (keys m)
one_more m n x = ap (map (λ e. e.0)) (fin.entries-insert nat_list_cmp_total m n x) ∙ put_named n x (entries m)

-- the list is that of the names of the policies, with those that are always there
pub listed_is : (policies : Map Text) → listed policies ≡ all_names (keys policies)
listed_is policies = one_more (put policies default []) root [] ∙ ap (with_name root) (one_more policies default [])
