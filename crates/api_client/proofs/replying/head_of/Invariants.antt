use Rattle.api_client.specs.Words.{◌-◌, ◌≤◌, length, Consumes}
use Rattle.api_client.proofs.replying.head_of.Given as goal

abbrev pub invariant-loop-head : goal.invariant-loop-head
invariant-loop-head g l = record {
  consumed : Consumes (g.R.Source.left l.fn.reader) (g.R.Source.left l.reader) l.bytes.items;
  short : length l.bytes.items ≤ 16384;
}

abbrev pub decreases-loop-head : goal.decreases-loop-head
decreases-loop-head g l = 16384 - length l.bytes.items
