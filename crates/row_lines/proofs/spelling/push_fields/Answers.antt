use Rattle.std.proofs.Common.{◌≡◌, ◌+◌, sym, drop}
use Rattle.broker_types.specs.Words.{◌∙◌, at_drop_more}
use Rattle.serde_json.specs.View.{members_view}
use Rattle.row_lines.specs.Layouts.{fields_in}
use Rattle.row_lines.specs.Spelled.{both, spelled_fields}
use Rattle.row_lines.proofs.Onto.{one_more}
use Rattle.row_lines.proofs.spelling.push_fields.Goals as goal

pub loop-field-preserved : goal.loop-field-preserved
loop-field-preserved c =
    let fields = c.args.fields.now in
    let i = c.loop-field.field-index in
    let members = members_view c.args.members.now.entries in
    let put = sym c.in-Some.is ∙ c.in_ok-longer.ensures in
    one_more c.loop-field.body c.in-Some.longer _ (spelled_fields (fields_in (drop (i + 1) fields)) members)
    (spelled_fields (fields_in (drop i fields)) members) _ put
    (at_drop_more (λ fs. spelled_fields (fields_in fs) members) fields i _ c.loop-field-test.true)
    c.loop-field.invariant
