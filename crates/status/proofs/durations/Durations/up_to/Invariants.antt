use Rattle.std.proofs.Common.{◌≡◌, fold, take}
use Rattle.status.specs.Counts.{plus}
use Rattle.status.proofs.durations.Durations.up_to.Given as goal

abbrev pub invariant-loop-count : goal.invariant-loop-count
invariant-loop-count l = l.sum ≡ fold plus 0 (take l.count-index l.counts)
