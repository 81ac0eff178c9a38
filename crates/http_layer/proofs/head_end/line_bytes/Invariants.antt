use Rattle.std.proofs.Common.{◌≡◌, ◌+◌, drop}
use Rattle.broker_types.specs.Words.{prefix_len}
use Rattle.http_layer.specs.Words.{is_line_byte}
use Rattle.http_layer.proofs.head_end.line_bytes.Given as goal

abbrev pub invariant-loop-i : goal.invariant-loop-i
invariant-loop-i l = l.i + prefix_len is_line_byte (drop l.i l.bytes) ≡ prefix_len is_line_byte l.bytes
