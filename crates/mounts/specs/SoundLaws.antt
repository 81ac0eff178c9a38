-- Mounts that are enabled or disabled leave a sound broker sound, and let it evolve.
use Rattle.std.specs.Prelude.{◌≡◌, ◌<◌, ◌^◌, ◌||◌, ℕ, Bool, true, false, not, cond, Option, Some, None, Result, Ok, Err}
use Rattle.records.specs.Words.{is_some, list_any, refl, sym, ◌∙◌, ap, subst, lit<, and_from, or_parts, not_from_false}
use Rattle.records.specs.Words.{none-some, same_Some, Text, same, same_true, Map, get, put, without, get-put}
use Rattle.records.specs.Words.{get-without, is_name, reserved_names, is_mount_name, Broker, Mount, Engine, Evolves}
use Rattle.records.specs.Words.{no_ok, sound_with, evolves_with, Forms, Sound, SoundMounts, IsSoundMount, ◌>>=◌}
use Rattle.records.specs.Words.{some_or, unless, Refusal, ok_inj}
use Rattle.broker_types.specs.declared.refusal.Refusal.TheVariants as refusal
use Rattle.broker_types.specs.declared.refusal.Reason.TheVariants as reason
use Rattle.mounts.specs.Mounts.{engine_asked, plain_mount, new_mount, enabled, may_go, disabled}

-- ---- what is enabled

-- a mount with a name that a mount may have, without settings
pub record IsNewMount (name : Text) (m : Mount) : Type 0 where
  pub mount_name : is_mount_name name ≡ true
  pub max_versions : m.max_versions ≡ 0

module _ (there : Bool) (name type : Text) (version : Option ℕ) (m : Mount) where
  reserved : Bool
  reserved = list_any (same name) reserved_names

  -- what follows the test of the type
  abbrev typed : Engine → Result Mount Refusal
  typed engine = Ok (plain_mount engine)

  -- the new mount has the name and no settings
  pub new_mount_is : new_mount there name type version ≡ Ok m → IsNewMount name m
  unfolding reserved
  new_mount_is h =
      elim (is_name name) as (λ v. is_name name ≡ v
      → (unless v (refusal.BadRequest reason.InvalidName) >>= (λ named.
      unless (not (there || reserved)) (refusal.BadRequest reason.PathInUse) >>= (λ free.
      some_or (refusal.BadRequest reason.UnsupportedMount) (engine_asked type version) >>= typed))) ≡ Ok m
      → IsNewMount name m) [
        | false ↦ λ _ k. no_ok k
        | true ↦ λ named k.
            elim (there || reserved) as (λ v. (there || reserved) ≡ v
            → (unless (not v) (refusal.BadRequest reason.PathInUse) >>= (λ free.
            some_or (refusal.BadRequest reason.UnsupportedMount) (engine_asked type version) >>= typed)) ≡ Ok m
            → IsNewMount name m) [
              | true ↦ λ _ l. no_ok l
              | false ↦ λ free l.
                  elim (engine_asked type version) as (λ o.
                  (some_or (refusal.BadRequest reason.UnsupportedMount) o >>= typed) ≡ Ok m → IsNewMount name m) [
                    | None ↦ λ n. no_ok n
                    | Some engine ↦ λ n. record {
                      mount_name = and_from _ _ named (not_from_false _ (or_parts there reserved free).1);
                      max_versions = ap (λ (z : Mount). z.max_versions) (sym (ok_inj n));
                    }
                  ] l
            ] refl k
      ] refl h

-- the mounts are those from before, with one that is new
pub enabled_is : (mounts next : Map Mount) (name type : Text) (version : Option ℕ)
    → enabled mounts name type version ≡ Ok next → (m : Mount) × IsNewMount name m × (next ≡ put mounts name m)
enabled_is mounts next name type version h =
    let there = is_some (get mounts name) in
    elim (new_mount there name type version) as (λ r. new_mount there name type version ≡ r
    → (r >>= (λ m. Ok (put mounts name m))) ≡ Ok next
    → (m : Mount) × IsNewMount name m × (next ≡ put mounts name m)) [
      | Err e ↦ λ _ k. no_ok k
      | Ok m ↦ λ is k. (m, new_mount_is there name type version m is, sym (ok_inj k))
    ] refl h

-- ---- the mounts are sound

put_sound : (mounts : Map Mount) (name : Text) (m : Mount) → SoundMounts mounts → IsNewMount name m
    → SoundMounts (put mounts name m)
put_sound mounts name m sound new n x e =
    elim (same n name) as (λ v. same n name ≡ v → cond v (Some m) (get mounts n) ≡ Some x → IsSoundMount n x) [
      | true ↦ λ at is.
          subst (λ z. IsSoundMount z x) (sym (same_true n name at))
          (subst (λ (y : Mount). IsSoundMount name y) (same_Some m x is) (record {
            mount_name = new.mount_name;
            max_versions = subst (λ k. k < 2 ^ 64) (sym new.max_versions) (lit< tt);
          }))
      | false ↦ λ _ is. sound n x is
    ] refl (sym (get-put mounts name m n) ∙ e)

without_sound : (mounts : Map Mount) (name : Text) → SoundMounts mounts → SoundMounts (without mounts name)
without_sound mounts name sound n x e =
    elim (same n name) as (λ v. cond v None (get mounts n) ≡ Some x → IsSoundMount n x) [
      | true ↦ λ is. absurd (none-some _ is)
      | false ↦ λ is. sound n x is
    ] (sym (get-without mounts name n) ∙ e)

-- ---- the broker

module _ (b : Broker) (next : Map Mount) where
  -- sound mounts leave a sound broker sound
  pub sound_with_mounts : (forms : Forms) (who : Option Text) → SoundMounts next → Sound forms who b
      → Sound forms who (record b { mounts = next })
  sound_with_mounts forms who mounts s =
      sound_with b b.clock b.secrets next b.roles b.policies forms who s s.clock s.secrets mounts s.roles s.policies

  -- any mounts let a broker evolve
  pub mounts_evolve : Evolves b (record b { mounts = next })
  mounts_evolve = evolves_with b b.clock b.secrets next b.roles b.policies

  -- a mount that is enabled leaves a sound broker sound
  pub enabled_sound : (forms : Forms) (who : Option Text) (name type : Text) (version : Option ℕ) → Sound forms who b
      → enabled b.mounts name type version ≡ Ok next → Sound forms who (record b { mounts = next })
  enabled_sound forms who name type version s h =
      let r = enabled_is b.mounts next name type version h in
      sound_with_mounts forms who
      (subst (λ (ms : Map Mount). SoundMounts ms) (sym r.2) (put_sound b.mounts name r.0 s.mounts r.1)) s

  -- and so does a mount that is disabled
  pub disabled_sound : (forms : Forms) (who : Option Text) (name : Text) → Sound forms who b
      → disabled b.mounts name ≡ Ok next → Sound forms who (record b { mounts = next })
  disabled_sound forms who name s h =
      elim (may_go name) as (λ r. (r >>= (λ _. Ok (without b.mounts name))) ≡ Ok next
      → Sound forms who (record b { mounts = next })) [
        | Err e ↦ λ k. no_ok k
        | Ok x ↦ λ k. sound_with_mounts forms who
            (subst (λ (ms : Map Mount). SoundMounts ms) (ok_inj k) (without_sound b.mounts name s.mounts)) s
      ] h
