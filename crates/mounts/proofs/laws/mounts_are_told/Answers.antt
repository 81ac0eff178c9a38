use Rattle.mounts.specs.Words.{mounts_told, told_mounts}
use Rattle.mounts.proofs.laws.mounts_are_told.Goals as goal

pub returns : goal.returns
returns c rows b sound = (λ told. mounts_told rows b sound told, λ are. told_mounts rows b are)
