use Rattle.std.proofs.Common.{◌≡◌, ◌+◌}
use Rattle.records.specs.Words.{Consumes}
use Rattle.replay.proofs.input.read_to_end.Given as goal

abbrev pub invariant-loop : goal.invariant-loop
invariant-loop g l = record {
  consumed : Consumes (g.R.Source.left l.fn.reader) (g.R.Source.left l.reader) l.bytes.items;
  counted : g.R.Source.pulls l.reader ≡ g.R.Source.pulls l.fn.reader + l.counter;
}
