use Rattle.std.proofs.Common.{◌≡◌, fold, take}
use Rattle.status.specs.Printing.{with_head, with_sample}
use Rattle.status.proofs.lines.put_metric_family.Given as goal

abbrev pub invariant-loop-sample : goal.invariant-loop-sample
invariant-loop-sample l =
    l.text.items
    ≡ fold (with_sample l.fn.name) (with_head l.fn.text.items l.fn.name) (take l.sample-index l.samples)
