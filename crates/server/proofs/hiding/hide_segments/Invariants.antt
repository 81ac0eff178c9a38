use Rattle.std.proofs.Common.{◌≡◌, ◌≤◌, ◌++◌, [], drop, slice_range}
use Rattle.server.specs.Hiding.{hidden}
use Rattle.server.proofs.hiding.hide_segments.Given as goal

abbrev pub invariant-loop-i : goal.invariant-loop-i
invariant-loop-i l = record {
  rest : l.shown.items ++ hidden (slice_range l.line l.start l.i) (drop l.i l.line) ≡ hidden [] l.line;
  order : l.start ≤ l.i;
}
