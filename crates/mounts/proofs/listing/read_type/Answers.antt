use Rattle.records.specs.Words.{Mount}
use Rattle.mounts.proofs.listing.read_type.Goals as goal

pub returns-clause-readable : goal.returns-clause-readable
returns-clause-readable c = let m : Mount = c.in_ok-mount.mount in
    (m, c.in_ok-mount.ensures.exact.0, c.in_ok-mount.ensures.exact.1)
