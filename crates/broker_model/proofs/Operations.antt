-- What operations leave that give out no identifier and hand out nothing, by the kind of their effect.
use Rattle.std.proofs.Common.{◌≡◌, List, [], not, Option, Some, None, Ok, refl, sym, ◌∙◌, ap, subst, inl}
use Rattle.broker_model.specs.Words.{Text, Map, get, Broker, Mount, Role, Waiting, Names, reply, missing, nothing}
use Rattle.broker_model.specs.Words.{plainly, Done, unless, ok_step, Key, Reply, Part, of_mounts, of_policies, of_roles}
use Rattle.broker_model.specs.Words.{of_secrets, ok_inj, Command, secrets_same, AllGiven, Does, IsFated, KeepsMaps}
use Rattle.broker_model.specs.Words.{SecretsStay, Stay, traits, Fate, stay, are_none, list_reply, listed}
use Rattle.broker_types.specs.declared.refusal.Refusal.TheVariants as refusal
use Rattle.broker_model.proofs.Staying.{keeps_self, stay_same}

-- ---- brokers that follow

-- what such an operation leaves
pub record Leaves (changes : Option Part) (b : Broker) (who : Option Text) (next : Broker) : Type 0 where
  pub waiting : next.waiting ≡ b.waiting
  pub stays : Stay changes who [] b next
  pub versions : AllGiven b → SecretsStay b.secrets next.secrets
  pub keeps : KeepsMaps changes b next

module _ (b : Broker) (who : Option Text) where
  pub leaves_self : (changes : Option Part) → Leaves changes b who b
  leaves_self changes = record {
    waiting = refl;
    stays = stay_same changes who [] b b refl;
    versions = λ given. secrets_same b.secrets b.secrets refl;
    keeps = keeps_self changes b;
  }

  pub leaves_policies : (next : Map Text) → Leaves (Some of_policies) b who (record b { policies = next })
  leaves_policies next = record {
    waiting = refl;
    stays = stay_same (Some of_policies) who [] b (record b { policies = next }) refl;
    versions = λ given. secrets_same b.secrets b.secrets refl;
    keeps = record {
      clock = refl;
      used = refl;
      tokens = refl;
      secrets = refl;
      waiting = refl;
      mounts = refl;
      roles = refl;
      policies = tt;
    };
  }

  pub leaves_mounts : (next : Map Mount) → Leaves (Some of_mounts) b who (record b { mounts = next })
  leaves_mounts next = record {
    waiting = refl;
    stays = stay_same (Some of_mounts) who [] b (record b { mounts = next }) refl;
    versions = λ given. secrets_same b.secrets b.secrets refl;
    keeps = record {
      clock = refl;
      used = refl;
      tokens = refl;
      secrets = refl;
      waiting = refl;
      mounts = tt;
      roles = refl;
      policies = refl;
    };
  }

  pub leaves_roles : (next : Map Role) → Leaves (Some of_roles) b who (record b { roles = next })
  leaves_roles next = record {
    waiting = refl;
    stays = stay_same (Some of_roles) who [] b (record b { roles = next }) refl;
    versions = λ given. secrets_same b.secrets b.secrets refl;
    keeps = record {
      clock = refl;
      used = refl;
      tokens = refl;
      secrets = refl;
      waiting = refl;
      mounts = refl;
      roles = tt;
      policies = refl;
    };
  }

  pub leaves_secrets : (next : Map Key) → (AllGiven b → SecretsStay b.secrets next)
      → Leaves (Some of_secrets) b who (record b { secrets = next })
  leaves_secrets next versions = record {
    waiting = refl;
    stays = stay_same (Some of_secrets) who [] b (record b { secrets = next }) refl;
    versions = versions;
    keeps = record {
      clock = refl;
      used = refl;
      tokens = refl;
      secrets = tt;
      waiting = refl;
      mounts = refl;
      roles = refl;
      policies = refl;
    };
  }

-- ---- what is done

module _ (b : Broker) (who : Option Text) (names : Names) (command : Command)
    (fate : (traits command).fate ≡ stay) where
  fated : (d : Done) → Stay (traits command).changes who d.taken b d.next
      → IsFated (traits command).fate (traits command).changes b who names d
  fated d stays = subst (λ (f : Fate). IsFated f (traits command).changes b who names d) (sym fate) stays

  waits_still : (next : Broker) → next.waiting ≡ b.waiting → (t : Text) (w : Waiting) → get next.waiting t ≡ Some w
      → get b.waiting t ≡ Some w
  waits_still next same t w e = ap (λ (m : Map Waiting). get m t) (sym same) ∙ e

  module _ (next : Broker) (leaves : Leaves (traits command).changes b who next) where
    -- one that answers 204
    pub silent_does : Does b who names command (plainly nothing next)
    silent_does = record {
      gives_own = inl refl;
      none_at_204 = λ _. refl;
      none_at_404 = λ r e. absurd (cc);
      hands_out = λ o e. absurd (cc);
      keeps_text = λ t e. absurd (cc);
      not_kept = λ _. refl;
      made = λ r made e. absurd (cc);
      waiting = λ t w e. inl (waits_still next leaves.waiting t w e);
      fated = fated (plainly nothing next) leaves.stays;
      versions = leaves.versions;
      keeps = leaves.keeps;
    }

    -- one that replies
    pub told_does : (r : Reply) → Does b who names command (plainly (reply r None) next)
    told_does r = record {
      gives_own = inl refl;
      none_at_204 = λ _. refl;
      none_at_404 = λ r e. absurd (cc);
      hands_out = λ o e. absurd (cc);
      keeps_text = λ t e. absurd (cc);
      not_kept = λ _. refl;
      made = λ r made e. inl (cc);
      waiting = λ t w e. inl (waits_still next leaves.waiting t w e);
      fated = fated (plainly (reply r None) next) leaves.stays;
      versions = leaves.versions;
      keeps = leaves.keeps;
    }

  -- one that replies, and leaves the broker as it is
  pub shown_does : (r : Reply) → Does b who names command (plainly (reply r None) b)
  shown_does r = told_does b (leaves_self b who (traits command).changes) r

  -- one that lists children
  pub listed_does : (children : List Text) (d : Done) → listed b names children ≡ Ok d → Does b who names command d
  listed_does children d e =
      let some = ok_step (unless (not (are_none children)) refusal.NotFound) _ d e in
      subst (Does b who names command) (ok_inj some.2) (shown_does (list_reply names.request children))

  -- a 404 with a reply
  pub missing_does : (r : Reply) → Does b who names command (plainly (missing r) b)
  missing_does r = record {
    gives_own = inl refl;
    none_at_204 = λ _. refl;
    none_at_404 = λ r e. (refl, refl);
    hands_out = λ o e. absurd (cc);
    keeps_text = λ t e. absurd (cc);
    not_kept = λ _. refl;
    made = λ r made e. absurd (cc);
    waiting = λ t w e. inl e;
    fated = fated (plainly (missing r) b) (stay_same (traits command).changes who [] b b refl);
    versions = λ given. secrets_same b.secrets b.secrets refl;
    keeps = keeps_self (traits command).changes b;
  }
