-- What commands on mounts leave.
use Rattle.std.proofs.Common.{◌≡◌, if◌then◌else◌, Bool, true, false, not, is_some, nat_eq, [], Some, Ok, refl, subst}
use Rattle.broker_model.specs.Words.{starts_with, Broker, Mount, Map, get, keep, Names, nothing, plainly, Done, ok_step}
use Rattle.broker_model.specs.Words.{Text, ok_inj, secret_name, enabled, disabled, on_mount, Does, act_on_mounts}
use Rattle.broker_model.specs.Words.{of_mounts_and_kept, without_kept}
use Rattle.leases.specs.Leases as leases
use Rattle.broker_model.specs.declared.commands.MountCommand.{MountCommand}
use Rattle.broker_model.specs.declared.commands.MountCommand.TheVariants as command
use Rattle.broker_model.proofs.LeaseEffects.{under_out}
use Rattle.broker_model.proofs.Operations.{Leaves, leaves_mounts, leaves_self, shown_does, silent_does}
use Rattle.broker_model.proofs.Staying.{stay_leases}
use Rattle.broker_model.proofs.VersionsStay.{all_fewer}

module _ (b : Broker) (c : Text) (names : Names) (name : Text) where
  abbrev DoesIt : MountCommand → Done → Type 0
  DoesIt command = Does b (Some c) names (on_mount name command)

  -- what is kept under the name goes with the mount
  leaves_bare : (next : Map Mount)
      → Leaves (Some of_mounts_and_kept) b (Some c) (without_kept (record b { mounts = next }) name)
  leaves_bare next = record {
    waiting = refl;
    stays = stay_leases (Some of_mounts_and_kept) (Some c) b (without_kept (record b { mounts = next }) name)
        (λ t m. keep (λ q. not (leases.is_under name q)) m) refl refl (under_out name);
    versions = λ given. all_fewer b.secrets (λ q. not (starts_with nat_eq q (secret_name name [])));
    keeps = record {
      clock = refl;
      used = refl;
      tokens = tt;
      secrets = tt;
      waiting = refl;
      mounts = tt;
      roles = tt;
      policies = refl;
    };
  }

  -- whether there was a mount or not
  disabling : (next : Map Mount) (was : Bool)
      → DoesIt command.Disable (plainly nothing (if was then without_kept (record b { mounts = next }) name else b))
  disabling next true = silent_does b (Some c) names _ refl _ (leaves_bare next)
  disabling next false = silent_does b (Some c) names _ refl _ (leaves_self b (Some c) _)

  pub acts : (command : MountCommand) (d : Done) → act_on_mounts b names name command ≡ Ok d → DoesIt command d
  acts command.List d e = subst (DoesIt command.List) (ok_inj e) (shown_does b (Some c) names _ refl _)
  acts (command.Enable asked) d e =
      let next = ok_step (enabled b.mounts name asked.type_name asked.version) _ d e in
      subst (DoesIt (command.Enable asked)) (ok_inj next.2)
      (silent_does b (Some c) names _ refl _ (leaves_mounts b (Some c) next.0))
  acts command.Disable d e =
      let next = ok_step (disabled b.mounts name) _ d e in
      subst (DoesIt command.Disable) (ok_inj next.2) (disabling next.0 (is_some (get b.mounts name)))
