-- Rules gathered policy by policy.
use Rattle.std.proofs.Common.{◌≡◌, ◌<◌, ◌+◌, ◌++◌, ◌∷◌, ℕ, suc, List, [], length, take, drop, get_or, flat_map, All, ap}
use Rattle.records.specs.Words.{Any, Option, Some, None, unwrap_or, option_and_then, sym, ◌∙◌, subst, arith}
use Rattle.records.specs.Words.{append_assoc, drop-cons, take_more, get_or_default, All-push, All-same, none-some}
use Rattle.records.specs.Words.{same_Some, Map, get, Text, Table, table_of, Rows}
use Rattle.policies.specs.Words.{rules_named, one_policy, IsPolicyAt, ArePoliciesAt, GivesRules, IsReadable}
use Rattle.policies.specs.Words.{IsUnreadable, kept_rules, policy_of, Rule}

kept_named : (o : Option Text) (rules : List Rule) → kept_rules o ≡ Some rules
    → unwrap_or (option_and_then policy_of o) [] ≡ rules
kept_named None rules e = same_Some _ _ e
kept_named (Some text) rules e = ap (λ o. unwrap_or o []) e

-- the rules that a row gives are those of the policy that it tells
pub rules_told : (rows : Table) (policies : Map Text) (name : Text) (rules : List Rule)
    → IsPolicyAt rows name (get policies name)
    → GivesRules rows name rules → rules ≡ rules_named policies name
unfolding rules_named
rules_told rows policies name rules at gives =
    sym (kept_named gives.text rules gives.read)
    ∙ ap (λ o. unwrap_or (option_and_then policy_of o) [])
    (one_policy rows name gives.text (get policies name) gives.row at)

-- a row whose text is no policy gives no rules
pub unread_named : (rows : Table) (name text : Text) → IsPolicyAt rows name (Some text) → policy_of text ≡ None
    → IsUnreadable rows name
unread_named rows name text at none rules gives =
    none-some _ (sym none ∙ ap kept_rules (one_policy rows name (Some text) gives.text at gives.row) ∙ gives.read)

-- ---- name by name

module _ (now old : Rows) (names : List Text) (i : ℕ) (d name : Text) (same : now ≡ old) (is : name ≡ get_or names i d)
    (within : i < length names) where
  -- what is told of all names is told of the one at the place
  pub told_at : (policies : Map Text) → ArePoliciesAt (table_of old) names policies
      → IsPolicyAt (table_of now) name (get policies name)
  told_at policies are =
      subst (λ rows. IsPolicyAt (table_of rows) name (get policies name)) (sym same)
      (subst (λ q. IsPolicyAt (table_of old) q (get policies q)) (sym is) (are i d within))

  -- one name more was read
  pub one_more_read : All (IsReadable (table_of old)) (take i names) → IsReadable (table_of now) name
      → All (IsReadable (table_of old)) (take (i + 1) names)
  one_more_read so_far one =
      All-same (IsReadable (table_of old)) _ _ (take_more names i d within)
      (All-push (IsReadable (table_of old)) (take i names) (get_or names i d) so_far
      (subst (IsReadable (table_of old)) is (subst (λ rows. IsReadable (table_of rows) name) same one)))

  -- the row of the one at the place gives no rules
  pub one_unread : IsUnreadable (table_of now) name → Any (IsUnreadable (table_of old)) names
  one_unread none = (
    i,
    name,
    within,
    get_or_default names i name d within ∙ sym is,
    subst (λ rows. IsUnreadable (table_of rows) name) same none,
  )

  -- the rules of one name more
  pub one_more : (f : Text → List Rule) (rules more all : List Rule) → rules ++ flat_map f (drop i names) ≡ all
      → more ≡ rules ++ f name
      → more ++ flat_map f (drop (i + 1) names) ≡ all
  one_more f rules more all so_far one =
      let next : suc i ≡ i + 1 = omega arith in
      ap (λ rs. rs ++ flat_map f (drop (i + 1) names)) one
      ∙ append_assoc rules (f name) (flat_map f (drop (i + 1) names))
      ∙ ap (λ n. rules ++ (f n ++ flat_map f (drop (i + 1) names))) is
      ∙ ap (λ ns. rules ++ flat_map f ns)
      (sym (drop-cons names i d within ∙ ap (λ n. get_or names i d ∷ drop n names) next))
      ∙ so_far
