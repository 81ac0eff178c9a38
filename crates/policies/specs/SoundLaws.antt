-- Policies that are set or deleted leave a sound broker sound, and let it evolve.
use Rattle.std.specs.Prelude.{◌≡◌, ◌<◌, ◌^◌, if◌then◌else◌, length, Bool, true, false, not, cond, Option, Some, None, ⊤}
use Rattle.records.specs.Words.{is_some, Ok, Err, option_and_then, IsUtf8, is_utf8, refl, sym, ◌∙◌, ap, subst, List}
use Rattle.records.specs.Words.{false≢true, none-some, same_Some, IsUtf8-from_is_utf8, Broker, Evolves, Map, get, put}
use Rattle.records.specs.Words.{without, get-put, get-without, is_name, ◌>>=◌, some_or, unless, no_ok, sound_with}
use Rattle.records.specs.Words.{evolves_with, Forms, Sound, SoundPolicies, IsSoundPolicy, Text, same, same_true}
use Rattle.records.specs.Words.{same_self, ok_inj}
use Rattle.serde_json.specs.Read.{read}
use Rattle.serde_json.specs.Find.{as_object}
use Rattle.broker_types.specs.declared.refusal.Refusal.TheVariants as refusal
use Rattle.broker_types.specs.declared.refusal.Reason.TheVariants as reason
use Rattle.api_json.specs.Words.{without_floats}
use Rattle.policies.specs.Policies.{is_root, root, fixed, may_set, set, may_delete, deleted}
use Rattle.policies.specs.PolicyTexts.{policy_of, policy_in, is_policy, policy_forms, unsupported}
use Rattle.policies.specs.Rules.{Rule}

-- ---- what may be set

-- a text that is a policy is UTF-8
policy_utf8 : (text : Text) → is_policy text ≡ true → IsUtf8 text
unfolding policy_of
policy_utf8 text h =
    elim (is_utf8 text) as (λ v. is_utf8 text ≡ v
    → is_some (option_and_then policy_in (option_and_then as_object
    (option_and_then without_floats (if v then read text else None)))) ≡ true → IsUtf8 text) [
      | true ↦ λ is _. IsUtf8-from_is_utf8 text is
      | false ↦ λ _ none. absurd (false≢true none)
    ] refl h

-- what follows from a policy that may be set
pub record IsSettable (name text : Text) : Type 0 where
  pub named : is_name name ≡ true
  pub free : is_root name ≡ false
  pub read : is_policy text ≡ true

pub settable : (name text : Text) (t : ⊤) → may_set name text ≡ Ok t → IsSettable name text
settable name text t h =
    let p = parts (is_name name) (is_root name) (policy_of text) h in
    record { named = p.0; free = p.1; read = p.2 }
  where
    parts : (n r : Bool) (p : Option (List Rule))
        → (unless n (refusal.BadRequest reason.InvalidName)
        >>= (λ _. unless (not r) fixed >>= (λ _. some_or unsupported p >>= (λ _. Ok tt)))) ≡ Ok t
        → (n ≡ true) × (r ≡ false) × (is_some p ≡ true)
    parts true false (Some x) e = (refl, refl, refl)
    parts true false None e = no_ok e
    parts true true p e = no_ok e
    parts false r p e = no_ok e

-- ---- policies

module _ (is_object : Text → Bool) (policies : Map Text) (sound : SoundPolicies (policy_forms is_object) policies) where
  put_sound : (name text : Text) → IsSoundPolicy (policy_forms is_object) name text
      → SoundPolicies (policy_forms is_object) (put policies name text)
  put_sound name text one n t e =
      elim (same n name) as (λ v. same n name ≡ v → cond v (Some text) (get policies n) ≡ Some t
      → IsSoundPolicy (policy_forms is_object) n t) [
        | true ↦ λ at is.
            subst (λ (m : Text). IsSoundPolicy (policy_forms is_object) m t) (sym (same_true n name at))
            (subst (IsSoundPolicy (policy_forms is_object) name) (same_Some _ _ is) one)
        | false ↦ λ _ is. sound n t is
      ] refl (sym (get-put policies name text n) ∙ e)

  without_sound : (name : Text) → SoundPolicies (policy_forms is_object) (without policies name)
  without_sound name n t e =
      elim (same n name) as (λ v. cond v None (get policies n) ≡ Some t
      → IsSoundPolicy (policy_forms is_object) n t) [
        | true ↦ λ is. absurd (none-some _ is)
        | false ↦ λ is. sound n t is
      ] (sym (get-without policies name n) ∙ e)

  -- policies stay sound if one is set
  set_policies : (name text : Text) (next : Map Text) → length text < 2 ^ 32 → set policies name text ≡ Ok next
      → SoundPolicies (policy_forms is_object) next
  set_policies name text next short h =
      elim (may_set name text) as (λ r. may_set name text ≡ r → (r >>= (λ _. Ok (put policies name text))) ≡ Ok next
      → SoundPolicies (policy_forms is_object) next) [
        | Err e ↦ λ _ k. no_ok k
        | Ok t ↦ λ may k.
            let s = settable name text t may in
            let one : IsSoundPolicy (policy_forms is_object) name text = record {
              policy_name = s.named;
              not_root = λ is. false≢true (sym s.free ∙ ap is_root is ∙ same_self root);
              policy = s.read;
              short = record { utf8 = policy_utf8 text s.read; short = short };
            } in
            subst (SoundPolicies (policy_forms is_object)) (ok_inj k) (put_sound name text one)
      ] refl h

  -- and if one is deleted
  deleted_policies : (name : Text) (next : Map Text) → deleted policies name ≡ Ok next
      → SoundPolicies (policy_forms is_object) next
  deleted_policies name next h =
      elim (may_delete name) as (λ r. (r >>= (λ _. Ok (without policies name))) ≡ Ok next
      → SoundPolicies (policy_forms is_object) next) [
        | Err e ↦ λ k. no_ok k
        | Ok t ↦ λ k. subst (SoundPolicies (policy_forms is_object)) (ok_inj k) (without_sound name)
      ] h

-- ---- the broker

module _ (b : Broker) (next : Map Text) where
  -- sound policies leave a sound broker sound
  pub sound_with_policies : (forms : Forms) (who : Option Text) → SoundPolicies forms next → Sound forms who b
      → Sound forms who (record b { policies = next })
  sound_with_policies forms who policies s =
      sound_with b b.clock b.secrets b.mounts b.roles next forms who s s.clock s.secrets s.mounts s.roles policies

  -- any policies let a broker evolve
  pub policies_evolve : Evolves b (record b { policies = next })
  policies_evolve = evolves_with b b.clock b.secrets b.mounts b.roles next

  -- a policy that is set leaves a sound broker sound
  pub set_sound : (is_object : Text → Bool) (who : Option Text) (name text : Text)
      → Sound (policy_forms is_object) who b → length text < 2 ^ 32 → set b.policies name text ≡ Ok next
      → Sound (policy_forms is_object) who (record b { policies = next })
  set_sound is_object who name text s short h =
      sound_with_policies (policy_forms is_object) who
      (set_policies is_object b.policies s.policies name text next short h) s

  -- and so does a policy that is deleted
  pub deleted_sound : (is_object : Text → Bool) (who : Option Text) (name : Text)
      → Sound (policy_forms is_object) who b → deleted b.policies name ≡ Ok next
      → Sound (policy_forms is_object) who (record b { policies = next })
  deleted_sound is_object who name s h =
      sound_with_policies (policy_forms is_object) who
      (deleted_policies is_object b.policies s.policies name next h) s
