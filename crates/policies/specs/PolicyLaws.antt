-- Policies that rows tell: which rows they are, and that they say one thing (this project's).
use Rattle.std.specs.Prelude.{◌≡◌, ◌++◌, ◌∷◌, List, [], All, true, Option, Some, None, option_map, is_some, false, cond}
use lib.Utf8.{encode}
use Rattle.records.specs.Words.{drop, flat_map, option_and_then, unwrap_or, list_any, is_utf8, chars, refl, sym, ◌∙◌}
use Rattle.records.specs.Words.{ap, subst, true≢false, false≢true, All-nil, All-cons, All-head, All-tail, none-some}
use Rattle.records.specs.Words.{same_Some, Broker, default_policy, Map, empty, get, put, without, get-put, get-without}
use Rattle.records.specs.Words.{IsShortText, Text, same, same_true, same_self, Verb, of_policies, Tells, IsSomeIn}
use Rattle.records.specs.Words.{policy_row, rows_of, count, Table}
use Rattle.json.specs.Json.{value}
use Rattle.json.specs.Lex.{lex, punctuate}
use Rattle.json.specs.Text.{content}
use Rattle.records.specs.declared.row.Row.{Row}
use Rattle.policies.specs.Grants.{rules_named, rules_of}
use Rattle.policies.specs.Policies.{is_root}
use Rattle.policies.specs.PolicyRows.{IsPolicyAt, ArePolicies, ArePoliciesAt, IsReadable}
use Rattle.policies.specs.PolicyTexts.{policy_of, pattern_of, words_of, paths_of, is_policy}
use Rattle.policies.specs.Rules.{Rule}
use Rattle.policies.specs.TellLaws.{policies_told}

-- the policy of the start is one
pub first_policy : is_policy default_policy ≡ true
unfolding default_policy same policy_of pattern_of words_of paths_of encode is_utf8 chars value lex punctuate content
first_policy = refl

-- ---- rows and policies

-- the rows of all policies are those at any names
pub policies_at : (rows : Table) (policies : Map Text) → ArePolicies rows policies → (names : List Text)
    → ArePoliciesAt rows names policies
policies_at rows policies are names = λ i d within. are _

-- the rows that a broker has are those of its policies
pub rows_of_policies : (rows : Table) (b : Broker) → rows ≡ rows_of b → ArePolicies rows b.policies
rows_of_policies rows b is = policies_told rows b (λ k q inside. ap (λ (t : Table). t k q) is)

-- rows that tell a broker's policies tell them at any names
pub told_at : (rows : Table) (b : Broker) (names : List Text) → Tells of_policies rows b
    → ArePoliciesAt rows names b.policies
told_at rows b names told = policies_at rows b.policies (policies_told rows b told) names

-- ---- rows say one thing

-- the text after its length, and equal rows have equal texts
after_length : (x : Text) → drop 5 (policy_row x).body ≡ x
unfolding count
after_length x = refl

same_text : (x y : Text) → policy_row x ≡ policy_row y → x ≡ y
same_text x y e = sym (after_length x) ∙ ap (λ (r : Row). drop 5 r.body) e ∙ after_length y

same_policy : (o p : Option Text) → option_map policy_row o ≡ option_map policy_row p → o ≡ p
same_policy None None e = refl
same_policy None (Some y) e = absurd (none-some _ e)
same_policy (Some x) None e = absurd (none-some _ (sym e))
same_policy (Some x) (Some y) e = ap Some (same_text x y (same_Some _ _ e))

-- what a row tells of its name is one text, or that there is none
pub one_policy : (rows : Table) (name : Text) (o p : Option Text) → IsPolicyAt rows name o → IsPolicyAt rows name p
    → o ≡ p
one_policy rows name o p h k = same_policy o p (sym h ∙ k)

module _ (rows : Table) (p q : Map Text) where
  abbrev At : Map Text → Text → Type 0
  At policies name = IsPolicyAt rows name (get policies name)

  same_rules : (name : Text) → At p name → At q name → rules_named p name ≡ rules_named q name
  unfolding rules_named
  same_rules name h k =
      ap (λ o. unwrap_or (option_and_then policy_of o) []) (one_policy rows name (get p name) (get q name) h k)

  all_rules : (names : List Text) → ArePoliciesAt rows names p → ArePoliciesAt rows names q
      → flat_map (rules_named p) names ≡ flat_map (rules_named q) names
  all_rules [] h k = refl
  all_rules (name ∷ names) h k =
      ap (λ rs. rs ++ flat_map (rules_named p) names)
      (same_rules name (All-head (At p) name names h) (All-head (At q) name names k))
      ∙ ap (λ rs. rules_named q name ++ rs)
      (all_rules names (All-tail (At p) name names h) (All-tail (At q) name names k))

  -- two maps whose rows these are at the names say the same of them
  pub known_policies : (names : List Text) (v : Verb) → ArePoliciesAt rows names p → ArePoliciesAt rows names q
      → rules_of p names v ≡ rules_of q names v
  unfolding rules_of
  known_policies names v h k =
      ap (λ (rs : List Rule). record { verb = v; is_root = list_any is_root names; rules = rs }) (all_rules names h k)

-- ---- rows that can be read

module _ (rows : Table) (name : Text) where
  readable_at : (o : Option Text) → IsSomeIn IsShortText o → IsSomeIn (λ text. is_policy text ≡ true) o
      → IsPolicyAt rows name o → IsReadable rows name
  readable_at None short policy at = ([], record { text = None; short = short; row = at; read = refl })
  readable_at (Some text) short policy at =
      elim (policy_of text) as (λ r. policy_of text ≡ r → is_some r ≡ true → IsReadable rows name) [
        | Some rules ↦ λ is _. (rules, record { text = Some text; short = short; row = at; read = is })
        | None ↦ λ _ none. absurd (false≢true none)
      ] refl (policy text refl)

-- ---- rows that can be read are those of some policies

-- policies with one more, or without the one that has no row
abbrev placed : Map Text → Text → Option Text → Map Text
placed policies name None = without policies name
placed policies name (Some text) = put policies name text

get-placed : (policies : Map Text) (name : Text) (o : Option Text) (n : Text)
    → get (placed policies name o) n ≡ cond (same n name) o (get policies n)
get-placed policies name None n = get-without policies name n
get-placed policies name (Some text) n = get-put policies name text n

module _ (rows : Table) where
  placed_at : (policies : Map Text) (name : Text) (o : Option Text) (n : Text) → IsPolicyAt rows name o
      → (same n name ≡ false → IsPolicyAt rows n (get policies n)) → IsPolicyAt rows n (get (placed policies name o) n)
  placed_at policies name o n at there =
      subst (IsPolicyAt rows n) (sym (get-placed policies name o n))
      (elim (same n name) as (λ v. same n name ≡ v → IsPolicyAt rows n (cond v o (get policies n))) [
        | true ↦ λ is. subst (λ (m : Text). IsPolicyAt rows m o) (sym (same_true n name is)) at
        | false ↦ λ apart. there apart
      ] refl)

  abbrev AtOf : Map Text → Text → Type 0
  AtOf policies name = IsPolicyAt rows name (get policies name)

  -- rows that can be read are those of some policies at these names
  pub readable_policies : (names : List Text) → All (IsReadable rows) names
      → (policies : Map Text) × ArePoliciesAt rows names policies
  readable_policies [] readable = (empty, All-nil (AtOf empty))
  readable_policies (name ∷ names) readable =
      let first = All-head (IsReadable rows) name names readable in
      let rest = readable_policies names (All-tail (IsReadable rows) name names readable) in
      let text = first.1.text in
      let itself = λ (apart : same name name ≡ false). absurd (true≢false (sym (same_self name) ∙ apart)) in
      let policies = placed rest.0 name text in (
        policies,
        All-cons (AtOf policies) name names (placed_at rest.0 name text name first.1.row itself)
            (λ i d within. placed_at rest.0 name text _ first.1.row (λ apart. rest.1 i d within)),
      )
