-- What commands on cubbyholes leave.
use Rattle.std.proofs.Common.{◌≡◌, Some, Ok, refl, subst}
use Rattle.broker_model.specs.Words.{Text, Map, put, without, Broker, Names, Done, some_or, ok_step, of_cubbyholes}
use Rattle.broker_model.specs.Words.{ok_inj, on_cubbyhole, secrets_same, Does, act_on_cubbyhole}
use Rattle.broker_types.specs.declared.refusal.Reason.TheVariants as reason
use Rattle.broker_types.specs.declared.refusal.Refusal.TheVariants as refusal
use Rattle.cubbyhole.specs.Cubbyhole as cubbyhole
use Rattle.broker_model.specs.declared.commands.CubbyholeCommand.{CubbyholeCommand}
use Rattle.broker_model.specs.declared.commands.CubbyholeCommand.TheVariants as command
use Rattle.broker_model.proofs.Operations.{Leaves, listed_does, shown_does, silent_does}
use Rattle.broker_model.proofs.Staying.{stay_cubbyhole}

module _ (b : Broker) (c : Text) (names : Names) (path : Text) where
  abbrev DoesIt : CubbyholeCommand → Done → Type 0
  DoesIt command = Does b (Some c) names (on_cubbyhole path command)

  leaves_edited : (edit : Map Text → Map Text) → Leaves (Some of_cubbyholes) b (Some c) (cubbyhole.edited b c edit)
  leaves_edited edit = record {
    waiting = refl;
    stays = stay_cubbyhole (Some of_cubbyholes) (Some c) b c edit refl refl;
    versions = λ given. secrets_same b.secrets b.secrets refl;
    keeps = record {
      clock = refl;
      used = refl;
      tokens = tt;
      secrets = refl;
      waiting = refl;
      mounts = refl;
      roles = refl;
      policies = refl;
    };
  }

  pub acts : (command : CubbyholeCommand) (d : Done) → act_on_cubbyhole b c names path command ≡ Ok d → DoesIt command d
  acts command.Read d e =
      let kept = ok_step (some_or refusal.NotFound (cubbyhole.object_at b c path)) _ d e in
      subst (DoesIt command.Read) (ok_inj kept.2) (shown_does b (Some c) names _ refl _)
  acts command.List d e = listed_does b (Some c) names _ refl (cubbyhole.list b c path) d e
  acts command.Delete d e =
      subst (DoesIt command.Delete) (ok_inj e)
      (silent_does b (Some c) names _ refl _ (leaves_edited (λ m. without m path)))
  acts (command.Write full) d e =
      let text = ok_step (some_or (refusal.BadRequest reason.MissingData) full) _ d e in
      subst (DoesIt (command.Write full)) (ok_inj text.2)
      (silent_does b (Some c) names _ refl _ (leaves_edited (λ m. put m path text.0)))
