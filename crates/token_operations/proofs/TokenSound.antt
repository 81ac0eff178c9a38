-- What commands on tokens leave: a sound broker.
use Rattle.std.proofs.Common.{◌≡◌, ◌≢◌, ◌≤◌, ◌<◌, ◌^◌, ◌+◌, ◌==◌, ◌||◌, ◌&&◌, if◌then◌else◌, ℕ, min, List, Bool, All}
use Rattle.broker_model.specs.Words.{true, false, not, Option, Some, None, is_none, refl, sym, ◌∙◌, ap, subst, arith}
use Rattle.broker_model.specs.Words.{lt_of_le_of_lt, le_trans, min-le_left, min-le_right, false≢true, and_parts}
use Rattle.broker_model.specs.Words.{none-some, same_Some, Text, same, get, no_entry, greatest_moment, longest_ttl}
use Rattle.broker_model.specs.Words.{Names, is_nothing, Token, token_text, Broker, Forms, Sound, IsSoundToken, IsEnd}
use Rattle.broker_model.specs.Words.{IsShortText, are_new, same_self, first_new, TokenCreation, each_listed, few_listed}
use Rattle.broker_model.specs.Words.{MayBeMade, token_names, makes_orphans, new_token, new_parent, or_longest}
use Rattle.broker_model.specs.Words.{asked_time, asked_ttl, has_no_end, use_limit}
use Rattle.broker_model.specs.declared.making.Making.{Making}
use Rattle.token_operations.specs.TokenRanges.{IsInRange, AreTokenNames}
use Rattle.token_operations.proofs.TokenPolicies.{ArePolicies, IsPolicyName}

-- ---- a new token is sound

pub ttl_short : (asked : TokenCreation) → asked_ttl asked ≤ longest_ttl
ttl_short asked =
    le_trans (min-le_right (asked_time asked) (min longest_ttl (or_longest asked.explicit_max_ttl)))
    (min-le_left longest_ttl (or_longest asked.explicit_max_ttl))

pub end_near : (now ttl : ℕ) → now ≤ greatest_moment → ttl ≤ longest_ttl → IsEnd (now + ttl)
end_near now ttl h g = omega arith

module _ (forms : Forms) (names : Names) (good : AreTokenNames names) (now : ℕ) (within : now ≤ greatest_moment)
    (asked : TokenCreation)
    (range : IsInRange asked) where
  pub new_sound : (parent : Option Text) (ps : List Text) → ArePolicies IsPolicyName ps
      → IsSoundToken forms (token_text names.token) (new_token now parent names.accessor ps asked)
  new_sound parent ps are =
      record {
        name = (names.token, good.token, refl);
        accessor = good.accessor;
        policy_names = are.names;
        policies_ascend = are.ascend;
        few_policies = are.few;
        issued = within;
        ends = ends (has_no_end ps asked);
        ttl = ttl (has_no_end ps asked);
        explicit_max_ttl = range.explicit_max_ttl;
        period = min-le_right asked.period longest_ttl;
        uses_left = uses (asked.num_uses == 0);
        few_meta = lt_of_le_of_lt (few_listed asked.meta) range.kept.meta.few;
        meta = each_listed (λ name value. IsShortText name × IsShortText value) asked.meta texts;
        cubbyhole = λ path object is. absurd (no_entry path object is);
        leases = λ lease_id l is. absurd (no_entry lease_id l is);
      }
    where
      ends : (v : Bool) (m : ℕ) → (if v then None else Some (now + asked_ttl asked)) ≡ Some m → IsEnd m
      ends true m e = absurd (none-some _ e)
      ends false m e = subst IsEnd (same_Some _ _ e) (end_near now (asked_ttl asked) within (ttl_short asked))

      ttl : (v : Bool) → (if v then 0 else asked_ttl asked) ≤ longest_ttl
      ttl true = omega arith
      ttl false = ttl_short asked

      uses : (v : Bool) (n : ℕ) → (if v then None else Some asked.num_uses) ≡ Some n → n < 2 ^ 64
      uses true n e = absurd (none-some _ e)
      uses false n e = subst (λ k. k < 2 ^ 64) (same_Some _ _ e) range.num_uses

      texts : All (λ e. IsShortText e.0 × IsShortText e.1) asked.meta
      texts k d lt =
          let u = range.texts k d lt in
          let s = range.kept.meta.short k d lt in
          (record { utf8 = u.0; short = s.0 }, record { utf8 = u.1; short = s.1 })

-- its uses are not spent
new_unspent : (n : ℕ) → use_limit n ≢ Some 0
new_unspent n = by (n == 0) refl
  where
    by : (v : Bool) → (n == 0) ≡ v → (if v then None else Some n) ≢ Some 0
    by true is e = none-some _ e
    by false is e = false≢true (sym is ∙ ap (λ k. k == 0) (same_Some _ _ e))

-- ---- by creation

-- the policies of a sound token
pub sound_policies : (forms : Forms) (t : Text) (x : Token) → IsSoundToken forms t x
    → ArePolicies IsPolicyName x.policies
sound_policies forms t x s = record { names = s.policy_names; ascend = s.policies_ascend; few = s.few_policies }

module _ (forms : Forms) (who : Option Text) (b : Broker) (sound : Sound forms who b) (names : Names)
    (good : AreTokenNames names)
    (new : are_new b.used (token_names names) ≡ true) where
  rest_new : (not (same names.token names.accessor || false) ≡ true)
      × ((is_none (get b.used names.accessor) && true) ≡ true)
  rest_new = and_parts _ _ (and_parts (is_none (get b.used names.token)) _ new).1

  differ : names.token ≢ names.accessor
  differ e =
      false≢true (sym (ap (λ v. not (v || false)) (same_self names.token))
      ∙ ap (λ k. not (same names.token k || false)) e ∙ rest_new.0)

  parent_stands : (c : Text) (v : Bool) (p : Text) → get b.tokens c ≢ None → (if v then None else Some c) ≡ Some p
      → get b.tokens p ≢ None
  parent_stands c true p here e = absurd (none-some _ e)
  parent_stands c false p here e = subst (λ q. get b.tokens q ≢ None) (same_Some _ _ e) here

  -- a token with good policies may be made
  pub may_be_made : (c : Text) (making : Making) (ps : List Text) (asked : TokenCreation) → IsInRange asked
      → get b.tokens c ≢ None
      → ArePolicies IsPolicyName ps
      → MayBeMade forms b (token_text names.token)
      (new_token b.clock (new_parent c making asked) names.accessor ps asked)
  may_be_made c making ps asked range here are = record {
    sound = new_sound forms names good b.clock sound.clock asked range (new_parent c making asked) ps are;
    token_is_new = first_new b.used names.token names.accessor new;
    accessor_is_new = is_nothing (get b.used names.accessor)
        (and_parts (is_none (get b.used names.accessor)) true rest_new.1).0;
    differ = differ;
    parent = λ p e. parent_stands c (makes_orphans making || asked.no_parent) p here e;
    no_lease = refl;
    unspent = new_unspent asked.num_uses;
  }
