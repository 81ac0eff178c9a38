use Rattle.std.proofs.Common.{refl}
use Rattle.command_line.proofs.SubcommandLemmas.{extended}
use Rattle.command_line.proofs.subcommands.with_policies.Goals as goal

pub returns : goal.returns
returns c =
    λ a zero.
    let one = extended _ _ _ _ _ c.extended-client.ensures zero c.write_policy.ensures refl in
    let two = extended _ _ _ _ _ c.extended-client-2.ensures one c.on_policy.ensures refl in
    let three = extended _ _ _ _ _ c.extended-client-3.ensures two c.on_policy-2.ensures refl in
    extended _ _ _ _ _ c.extended.ensures three c.alone.ensures refl
