use Rattle.broker_types.specs.Words.{map, take}
use Rattle.httparse.specs.Spans.{header_bytes}
use Rattle.http_layer.specs.Words.{values_named, AreNamed}
use Rattle.http_layer.proofs.fields.find_named.Given as goal

abbrev pub invariant-loop-header : goal.invariant-loop-header
invariant-loop-header l =
    AreNamed (values_named l.name (map (header_bytes l.text) (take l.header-index l.headers))) l.named
