use Rattle.std.proofs.Common.{refl}
use Rattle.command_line.proofs.SubcommandLemmas.{extended}
use Rattle.command_line.proofs.subcommands.with_secrets.Goals as goal

pub returns : goal.returns
returns c =
    λ a zero.
    let one = extended _ _ _ _ _ c.extended-client.ensures zero c.get_secret.ensures refl in
    let two = extended _ _ _ _ _ c.extended-client-2.ensures one c.put_secret.ensures refl in
    let three = extended _ _ _ _ _ c.extended-client-3.ensures two c.on_path.ensures refl in
    extended _ _ _ _ _ c.extended.ensures three c.on_path-2.ensures refl
