-- What commands on secrets leave.
use Rattle.std.proofs.Common.{◌≡◌, ◌∷◌, if◌then◌else◌, ℕ, [], true, false, None, Some, is_some, Ok, refl, sym, subst}
use Rattle.broker_model.specs.Words.{Broker, Names, reply, missing, Done, plainly, some_or, ok_step, Text, SecretWrite}
use Rattle.broker_model.specs.Words.{of_secrets, ok_inj, Written, secret_name, write_is, Found, destroyed, restored}
use Rattle.broker_model.specs.Words.{soft_deleted, with_changed, on_secret, AllGiven, Does, SecretsStay, Place}
use Rattle.broker_model.specs.Words.{object_left, version_reply, version_answered, written_reply, act_on_secrets}
use Rattle.broker_model.specs.Words.{given_settings}
use Rattle.broker_types.specs.declared.refusal.Refusal.TheVariants as refusal
use Rattle.kv2.specs.Secrets as secrets
use Rattle.broker_model.specs.declared.commands.SecretCommand.{SecretCommand}
use Rattle.broker_model.specs.declared.commands.SecretCommand.TheVariants as command
use Rattle.broker_model.proofs.Operations.{Leaves, leaves_mounts, leaves_secrets, listed_does, missing_does, shown_does}
use Rattle.broker_model.proofs.Operations.{silent_does, told_does}
use Rattle.broker_model.proofs.VersionsStay.{all_but, changed_stay, destroyed_holds, metadata_stays, one_changed}
use Rattle.broker_model.proofs.VersionsStay.{restored_holds, soft_holds, write_stays}

module _ (b : Broker) (c : Text) (names : Names) (p : Place) where
  abbrev DoesIt : SecretCommand → Done → Type 0
  DoesIt command = Does b (Some c) names (on_secret p command)

  abbrev name : Text
  name = secret_name p.mount p.path

  version_does : (n : ℕ) (v : Found) → DoesIt (command.Read n) (plainly (version_answered names.request v) b)
  version_does n v =
      elim (is_some (object_left v.version))
      as (λ x. DoesIt (command.Read n)
      (plainly (if x then reply (version_reply names.request v) None else missing (version_reply names.request v)) b)) [
        | true ↦ shown_does b (Some c) names _ refl (version_reply names.request v)
        | false ↦ missing_does b (Some c) names _ refl (version_reply names.request v)
      ]

  leaves_written : (asked : SecretWrite) (w : Written) → secrets.write b p.mount p.path asked.cas asked.object ≡ Ok w
      → Leaves (Some of_secrets) b (Some c) w.next
  leaves_written asked w e =
      let x = write_is b p.mount p.path asked.cas asked.object w e in
      let stays : AllGiven b → SecretsStay b.secrets w.next.secrets =
      λ given_. write_stays b given_ p.mount p.path asked.cas asked.object w e in
      subst (λ (z : Written). (AllGiven b → SecretsStay b.secrets z.next.secrets)
      → Leaves (Some of_secrets) b (Some c) z.next)
      (sym x.3) (leaves_secrets b (Some c) _) stays

  pub acts : (command : SecretCommand) (d : Done) → act_on_secrets b names p command ≡ Ok d → DoesIt command d
  acts command.ShowSettings d e =
      let m = ok_step (some_or refusal.NotFound (secrets.config b p.mount)) _ d e in
      subst (DoesIt command.ShowSettings) (ok_inj m.2) (shown_does b (Some c) names _ refl _)
  acts (command.SetSettings asked) d e =
      subst (DoesIt (command.SetSettings asked)) (ok_inj e)
      (silent_does b (Some c) names _ refl _ (leaves_mounts b (Some c) _))
  acts (command.Read n) d e =
      let v = ok_step (some_or refusal.NotFound (secrets.read b p.mount p.path n)) _ d e in
      subst (DoesIt (command.Read n)) (ok_inj v.2) (version_does n v.0)
  acts (command.Write asked) d e =
      let w = ok_step (secrets.write b p.mount p.path asked.cas asked.object) _ d e in
      subst (DoesIt (command.Write asked)) (ok_inj w.2)
      (told_does b (Some c) names _ refl w.0.next (leaves_written asked w.0 w.1)
      (written_reply names.request b.clock w.0.custom_metadata w.0.number))
  acts command.DeleteCurrent d e =
      subst (DoesIt command.DeleteCurrent) (ok_inj e)
      (silent_does b (Some c) names _ refl _ (leaves_secrets b (Some c) _ (λ given_.
      one_changed b.secrets name (λ k. with_changed (soft_deleted b.clock) (k.current ∷ []) k)
      (λ k. changed_stay (soft_deleted b.clock) (soft_holds b.clock) (k.current ∷ []) k))))
  acts (command.Delete ns) d e =
      subst (DoesIt (command.Delete ns)) (ok_inj e)
      (silent_does b (Some c) names _ refl _ (leaves_secrets b (Some c) _ (λ given_.
      one_changed b.secrets name (with_changed (soft_deleted b.clock) ns)
      (changed_stay (soft_deleted b.clock) (soft_holds b.clock) ns))))
  acts (command.Undelete ns) d e =
      subst (DoesIt (command.Undelete ns)) (ok_inj e)
      (silent_does b (Some c) names _ refl _ (leaves_secrets b (Some c) _ (λ given_.
      one_changed b.secrets name (with_changed restored ns) (changed_stay restored restored_holds ns))))
  acts (command.Destroy ns) d e =
      subst (DoesIt (command.Destroy ns)) (ok_inj e)
      (silent_does b (Some c) names _ refl _ (leaves_secrets b (Some c) _ (λ given_.
      one_changed b.secrets name (with_changed destroyed ns) (changed_stay destroyed destroyed_holds ns))))
  acts command.ShowMetadata d e =
      let m = ok_step (some_or refusal.NotFound (secrets.metadata b p.mount p.path)) _ d e in
      subst (DoesIt command.ShowMetadata) (ok_inj m.2) (shown_does b (Some c) names _ refl _)
  acts (command.SetMetadata asked) d e =
      subst (DoesIt (command.SetMetadata asked)) (ok_inj e)
      (silent_does b (Some c) names _ refl _ (leaves_secrets b (Some c) _ (λ given_.
      metadata_stays b p.mount p.path (given_settings asked))))
  acts command.Remove d e =
      subst (DoesIt command.Remove) (ok_inj e)
      (silent_does b (Some c) names _ refl _ (leaves_secrets b (Some c) _ (λ given_. all_but b.secrets name)))
  acts command.List d e = listed_does b (Some c) names _ refl (secrets.list b p.mount p.path) d e
