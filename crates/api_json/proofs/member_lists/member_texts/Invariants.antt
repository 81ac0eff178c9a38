use Rattle.std.proofs.Common.{◌≡◌}
use Rattle.serde_json.specs.View.{members_view}
use Rattle.api_json.specs.Words.{each_text}
use Rattle.api_json.proofs.Gathering.{onto}
use Rattle.api_json.proofs.member_lists.member_texts.Given as goal

abbrev pub invariant-loop-name : goal.invariant-loop-name
invariant-loop-name l = onto l.list.items (each_text (members_view l.name-iterator))
    ≡ each_text (members_view l.members.entries)
