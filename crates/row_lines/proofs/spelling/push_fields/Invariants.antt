use Rattle.std.proofs.Common.{◌≡◌, drop}
use Rattle.serde_json.specs.View.{members_view}
use Rattle.row_lines.specs.Layouts.{fields_in}
use Rattle.row_lines.specs.Spelled.{onto, spelled_fields}
use Rattle.row_lines.proofs.spelling.push_fields.Given as goal

abbrev pub invariant-loop-field : goal.invariant-loop-field
invariant-loop-field l =
    onto l.body (spelled_fields (fields_in (drop l.field-index l.fields)) (members_view l.members.entries))
    ≡ onto l.initial.body (spelled_fields (fields_in l.fields) (members_view l.members.entries))
