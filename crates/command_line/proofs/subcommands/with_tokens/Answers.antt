use Rattle.std.proofs.Common.{refl}
use Rattle.command_line.proofs.SubcommandLemmas.{extended}
use Rattle.command_line.proofs.subcommands.with_tokens.Goals as goal

pub returns : goal.returns
returns c =
    λ a zero.
    let one = extended _ _ _ _ _ c.extended-client.ensures zero c.create_token.ensures refl in
    let two = extended _ _ _ _ _ c.extended-client-2.ensures one c.by_accessor.ensures refl in
    let three = extended _ _ _ _ _ c.extended-client-3.ensures two c.renew_token.ensures refl in
    let four = extended _ _ _ _ _ c.extended-client-4.ensures three c.by_accessor-2.ensures refl in
    extended _ _ _ _ _ c.extended.ensures four c.alone.ensures refl
