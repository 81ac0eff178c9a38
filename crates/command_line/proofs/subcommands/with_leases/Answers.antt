use Rattle.std.proofs.Common.{refl}
use Rattle.command_line.proofs.SubcommandLemmas.{extended}
use Rattle.command_line.proofs.subcommands.with_leases.Goals as goal

pub returns : goal.returns
returns c =
    λ a zero.
    let one = extended _ _ _ _ _ c.extended-client.ensures zero c.renew_lease.ensures refl in
    extended _ _ _ _ _ c.extended.ensures one c.revoke_lease.ensures refl
