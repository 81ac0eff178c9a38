-- The policies of a new token are names, in order, and few.
use Rattle.std.proofs.Common.{◌≡◌, ◌≤◌, ◌<◌, ◌^◌, ◌+◌, ◌&&◌, ◌∷◌, ◌||◌, if◌then◌else◌, ℕ, suc, List, [], length, map}
use Rattle.broker_model.specs.Words.{Bool, true, false, not, codes, len-entries, entries_sorted, is_sorted, list_all}
use Rattle.broker_model.specs.Words.{refl, sym, ◌∙◌, subst, lit<, lt_of_le_of_lt, arith, and_parts, length-map}
use Rattle.broker_model.specs.Words.{length-filter, count_by-le-length, All-nil, All-cons, All-map, All-filter, Text}
use Rattle.broker_model.specs.Words.{text_cmp, same, Map, len, entries, keys, is_name, each_entry, is_ascending, Token}
use Rattle.broker_model.specs.Words.{T_true, TokenCreation, has, set_of, member, each_listed, few_listed, default_name}
use Rattle.broker_model.specs.Words.{have_root, policies_given, without_default, new_policies}
use Rattle.std.specs.Prelude.{All}

-- ---- keys of maps

module _ {X : Type 0} where
  sorted_ascend : (es : List (Text × X)) → is_sorted text_cmp es ≡ true → is_ascending (map (λ e. e.0) es) ≡ true
  sorted_ascend [] h = refl
  sorted_ascend (x ∷ []) h = refl
  sorted_ascend (x ∷ y ∷ es) h =
      let outer = and_parts _ _ h in
      let inner = and_parts _ _ outer.0 in
      λ i. inner.0 i && sorted_ascend (y ∷ es) outer.1 i

  -- the keys of a map ascend
  pub keys_ascend : (m : Map X) → is_ascending (keys m) ≡ true
  keys_ascend m = sorted_ascend (entries m) (T_true _ (entries_sorted m))

-- ---- sets of texts

-- what holds of each text holds of each in the set
pub each_in_set : (P : Text → Type 0) (ts : List Text) → All P ts → All P (keys (set_of ts))
each_in_set P ts all =
    All-map P (λ e. e.0) (entries (set_of ts))
    (each_entry (λ e. P e.0) (set_of ts)
    (λ t x is. each_listed (λ t x. P t) (map member ts) (All-map (λ e. P e.0) member ts all) t x is))

-- and it has no more of them
pub few_in_set : (ts : List Text) → length (keys (set_of ts)) ≤ length ts
few_in_set ts =
    subst (λ n. n ≤ length ts) (len-entries (set_of ts) ∙ sym (length-map (entries (set_of ts)) (λ e. e.0)))
    (subst (λ n. len (set_of ts) ≤ n) (length-map ts member) (few_listed (map member ts)))

-- ---- the policies of a new token

-- policies as tokens have them: each as P says, in order, and few
pub record ArePolicies (P : Text → Type 0) (ps : List Text) : Type 0 where
  pub names : All P ps
  pub ascend : is_ascending ps ≡ true
  pub few : length ps < 2 ^ 32

-- names of policies
abbrev pub IsPolicyName : Text → Type 0
IsPolicyName p = is_name p ≡ true

-- what passes one by one
pub each_passes : (ts : List Text) → list_all is_name ts ≡ true → All IsPolicyName ts
each_passes [] h = All-nil IsPolicyName
each_passes (t ∷ ts) h =
    let two = and_parts _ _ h in
    All-cons IsPolicyName t ts two.0 (each_passes ts two.1)

one_more : (n m : ℕ) → n + 1 < m → suc n < m
one_more n m h = omega arith

fewer : (n m : ℕ) → n + 1 < m → n < m
fewer n m h = omega arith

given_few : (adds : Bool) (own asked : List Text) → length own < 2 ^ 32 → length asked + 1 < 2 ^ 32
    → length (policies_given adds own asked) < 2 ^ 32
given_few adds own [] h g = h
given_few true own (p ∷ ps) h g = one_more (length (p ∷ ps)) (2 ^ 32) g
given_few false own (p ∷ ps) h g = fewer (length (p ∷ ps)) (2 ^ 32) g

without_few : (ts : List Text) → length (without_default ts) ≤ length ts
without_few ts =
    omega (
      arith,
      length-filter (λ p. not (same p default_name)) ts,
      count_by-le-length (λ p. not (same p default_name)) ts,
    )

module _ (P : Text → Type 0) (root : P (codes "root")) (default : P default_name) where
  set_policies : (ts : List Text) → All P ts → length ts < 2 ^ 32 → ArePolicies P (keys (set_of ts))
  set_policies ts names few = record {
    names = each_in_set P ts names;
    ascend = keys_ascend (set_of ts);
    few = lt_of_le_of_lt (few_in_set ts) few;
  }

  root_policies : ArePolicies P (codes "root" ∷ [])
  root_policies = record { names = All-cons P (codes "root") [] root (All-nil P); ascend = refl; few = lit< tt }

  given_names : (adds : Bool) (own asked : List Text) → All P own → All P asked → All P (policies_given adds own asked)
  given_names adds own [] h g = h
  given_names true own (p ∷ ps) h g = All-cons P default_name (p ∷ ps) default g
  given_names false own (p ∷ ps) h g = g

  module _ (privileged : Bool) (x : Token) (asked : TokenCreation) where
    abbrev given : List Text
    given = policies_given (privileged || has x.policies default_name) x.policies asked.policies

    -- those of a caller that has such, and of a body that asks for such, are such policies
    pub new_policies_are : ArePolicies P x.policies → All P asked.policies → length asked.policies + 1 < 2 ^ 32
        → ArePolicies P (new_policies privileged x asked)
    new_policies_are own named few =
        let all = given_names (privileged || has x.policies default_name) x.policies asked.policies own.names named in
        let short = given_few (privileged || has x.policies default_name) x.policies asked.policies own.few few in
        elim (have_root given)
        as (λ v. ArePolicies P (if v then codes "root" ∷ []
        else keys (set_of (if asked.no_default_policy then without_default given else given)))) [
          | true ↦ root_policies
          | false ↦ elim (asked.no_default_policy) as (λ v. ArePolicies P
              (keys (set_of (if v then without_default given else given)))) [
                | true ↦ set_policies (without_default given) (All-filter (λ p. not (same p default_name)) P given all)
                    (lt_of_le_of_lt (without_few given) short)
                | false ↦ set_policies given all short
              ]
        ]
