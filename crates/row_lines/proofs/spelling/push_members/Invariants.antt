use Rattle.std.proofs.Common.{◌≡◌}
use Rattle.serde_json.specs.View.{members_view}
use Rattle.row_lines.specs.Spelled.{onto, spelled_members}
use Rattle.row_lines.proofs.spelling.push_members.Given as goal

abbrev pub invariant-loop-name : goal.invariant-loop-name
invariant-loop-name l = onto l.body (spelled_members (members_view l.name-iterator))
    ≡ onto l.initial.body (spelled_members (members_view l.members.entries))
