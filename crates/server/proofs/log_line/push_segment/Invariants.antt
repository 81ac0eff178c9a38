use Rattle.std.proofs.Common.{◌≡◌, ◌++◌, drop, map}
use Rattle.server.specs.LogLine.{shown_byte}
use Rattle.server.proofs.log_line.push_segment.Given as goal

abbrev pub invariant-loop-byte : goal.invariant-loop-byte
invariant-loop-byte l = record {
  rest : l.shown.items ++ map shown_byte (drop l.byte-index l.segment) ≡ l.fn.shown.items ++ map shown_byte l.segment;
}
