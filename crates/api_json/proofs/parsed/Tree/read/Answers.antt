use Rattle.broker_types.specs.Words.{sym, ap, ◌∙◌, option_map}
use Rattle.serde_json.specs.View.{view}
use Rattle.api_json.proofs.Bodies.{value_shallow}
use Rattle.api_json.proofs.parsed.Tree.read.Goals as goal

pub without_floats-requires : goal.without_floats-requires
without_floats-requires c =
    value_shallow c.args.bytes.now (view c.in-Some.value)
    (sym c.in_ok-value.ensures ∙ ap (option_map view) c.in-Some.is)
