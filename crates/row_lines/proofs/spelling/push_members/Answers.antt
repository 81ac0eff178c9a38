use Rattle.std.proofs.Common.{◌≡◌, sym, ap}
use Rattle.broker_types.specs.Words.{◌∙◌}
use Rattle.records.specs.Words.{string_bytes}
use Rattle.serde_json.specs.View.{view, members_view}
use Rattle.row_lines.specs.Spelled.{both, onto, short_text, spelled_text, spelled_members}
use Rattle.row_lines.proofs.Onto.{one_more}
use Rattle.row_lines.proofs.spelling.push_members.Goals as goal

pub loop-name-preserved : goal.loop-name-preserved
loop-name-preserved c =
    let value = spelled_text (view c.in-Some.value.now) in
    one_more c.loop-name.body c.in-Some-2.longer (both (short_text (string_bytes c.in-Some.name.now)) value)
    (spelled_members (members_view c.next.new.self)) (spelled_members (members_view c.loop-name.name-iterator)) _
    (sym c.in-Some-2.is ∙ c.in_ok-longer.ensures
    ∙ ap (λ t. onto c.loop-name.body (both (short_text t) value)) c.as_str.ensures.value)
    (ap (λ ms. spelled_members (members_view ms)) c.in-Some.ensures.steps) c.loop-name.invariant
