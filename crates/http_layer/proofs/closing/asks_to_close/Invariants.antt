use Rattle.std.proofs.Common.{◌≡◌, take, map, false}
use Rattle.broker_types.specs.Words.{list_any}
use Rattle.httparse.specs.Spans.{header_bytes}
use Rattle.http_layer.specs.Words.{is_closing}
use Rattle.http_layer.proofs.closing.asks_to_close.Given as goal

abbrev pub invariant-loop-header : goal.invariant-loop-header
invariant-loop-header l = list_any is_closing (map (header_bytes l.text) (take l.header-index l.headers)) ≡ false
