use Rattle.std.proofs.Common.{refl}
use Rattle.command_line.proofs.SubcommandLemmas.{extended}
use Rattle.command_line.proofs.subcommands.with_paths.Goals as goal

pub returns : goal.returns
returns c =
    λ a zero.
    let one = extended _ _ _ _ _ c.extended-client.ensures zero c.on_path.ensures refl in
    let two = extended _ _ _ _ _ c.extended-client-2.ensures one c.write.ensures refl in
    let three = extended _ _ _ _ _ c.extended-client-3.ensures two c.on_path-2.ensures refl in
    let four = extended _ _ _ _ _ c.extended-client-4.ensures three c.on_path-3.ensures refl in
    extended _ _ _ _ _ c.extended.ensures four c.unwrap.ensures refl
