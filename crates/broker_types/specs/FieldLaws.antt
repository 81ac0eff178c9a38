-- A broker with another clock, other secrets, mounts, roles or policies, and the same tokens, waiting responses and
-- identifiers given out.
use Rattle.broker_types.specs.Words.{ℕ, Option, refl, sym, ◌∙◌, inl, none-some, Text, Map, Key, Broker, Mount, Role}
use Rattle.broker_types.specs.Words.{Evolves, Forms, Sound, IsMoment, SoundSecrets, SoundMounts, SoundRoles}
use Rattle.broker_types.specs.Words.{SoundPolicies}

module _ (b : Broker) (clock : ℕ) (secrets : Map Key) (mounts : Map Mount) (roles : Map Role)
    (policies : Map Text) where
  abbrev pub with_fields : Broker
  with_fields =
      record b { clock = clock; secrets = secrets; mounts = mounts; roles = roles; policies = policies }

  -- it is sound if each of these fields is
  pub sound_with : (forms : Forms) (who : Option Text) → Sound forms who b → IsMoment clock → SoundSecrets forms secrets
      → SoundMounts mounts → SoundRoles roles → SoundPolicies forms policies → Sound forms who with_fields
  sound_with forms who s moment sound_secrets sound_mounts sound_roles sound_policies = record {
    clock = moment;
    tokens = s.tokens;
    secrets = sound_secrets;
    waiting = s.waiting;
    mounts = sound_mounts;
    roles = sound_roles;
    policies = sound_policies;
    identifiers = record {
      used = s.identifiers.used;
      one_place = s.identifiers.one_place;
      all_used = s.identifiers.all_used;
      origins_used = s.identifiers.origins_used;
    };
    unspent = s.unspent;
  }

  -- and the broker evolves to it, whatever they are
  pub evolves_with : Evolves b with_fields
  evolves_with = record {
    used = λ i u. u;
    tokens = λ t x is. inl (λ none. absurd (none-some _ (sym none ∙ is)));
    leases = λ t id l is. inl (l, is, refl);
    wrapping_tokens = λ t w is. inl (λ none. absurd (none-some _ (sym none ∙ is)));
    waiting = λ t w is. inl (t, w, is, refl, refl);
  }
