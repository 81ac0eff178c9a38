use Rattle.status.specs.Families.{version_family}
use Rattle.status.proofs.families.put_version.Goals as goal

pub returns : goal.returns
unfolding version_family
returns c = rw c.labelled-version.ensures at c.put_family.ensures
