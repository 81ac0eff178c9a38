use Rattle.std.proofs.Common.{◌≡◌, ◌≤◌, ◌++◌, [], drop, slice_range}
use Rattle.server.specs.LogLine.{shown_path}
use Rattle.server.proofs.log_line.shown.Given as goal

abbrev pub invariant-loop-i : goal.invariant-loop-i
invariant-loop-i l = record {
  rest : l.shown.items ++ shown_path (slice_range l.path l.start l.i) (drop l.i l.path) ≡ shown_path [] l.path;
  order : l.start ≤ l.i;
}
