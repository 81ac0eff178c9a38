-- What commands on policies leave.
use Rattle.std.proofs.Common.{◌≡◌, Some, Ok, refl, subst}
use Rattle.broker_model.specs.Words.{Broker, Names, Done, some_or, ok_step, Text, ok_inj, on_policy, Does}
use Rattle.broker_model.specs.Words.{act_on_policies}
use Rattle.broker_types.specs.declared.refusal.Refusal.TheVariants as refusal
use Rattle.policies.specs.Policies as policies
use Rattle.broker_model.specs.declared.commands.PolicyCommand.{PolicyCommand}
use Rattle.broker_model.specs.declared.commands.PolicyCommand.TheVariants as command
use Rattle.broker_model.proofs.Operations.{leaves_policies, shown_does, silent_does}

module _ (b : Broker) (c : Text) (names : Names) (name : Text) where
  abbrev DoesIt : PolicyCommand → Done → Type 0
  DoesIt command = Does b (Some c) names (on_policy name command)

  pub acts : (command : PolicyCommand) (d : Done) → act_on_policies b names name command ≡ Ok d → DoesIt command d
  acts command.List d e = subst (DoesIt command.List) (ok_inj e) (shown_does b (Some c) names _ refl _)
  acts command.Show d e =
      let text = ok_step (some_or refusal.NotFound (policies.text_of b.policies name)) _ d e in
      subst (DoesIt command.Show) (ok_inj text.2) (shown_does b (Some c) names _ refl _)
  acts (command.Set text) d e =
      let next = ok_step (policies.set b.policies name text) _ d e in
      subst (DoesIt (command.Set text)) (ok_inj next.2)
      (silent_does b (Some c) names _ refl _ (leaves_policies b (Some c) next.0))
  acts command.Remove d e =
      let next = ok_step (policies.deleted b.policies name) _ d e in
      subst (DoesIt command.Remove) (ok_inj next.2)
      (silent_does b (Some c) names _ refl _ (leaves_policies b (Some c) next.0))
