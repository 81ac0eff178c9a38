use Rattle.std.proofs.Common.{◌≡◌, ◌++◌, drop, map}
use Rattle.server.specs.LogLine.{plain_byte}
use Rattle.server.proofs.log_line.push_plain.Given as goal

abbrev pub invariant-loop-byte : goal.invariant-loop-byte
invariant-loop-byte l = record {
  rest : l.line.items ++ map plain_byte (drop l.byte-index l.event) ≡ l.fn.line.items ++ map plain_byte l.event;
}
