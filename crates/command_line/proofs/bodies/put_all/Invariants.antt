use Rattle.std.proofs.Common.{◌≡◌, drop}
use Rattle.serde_json.specs.View.{members_view}
use Rattle.command_line.specs.Bodies.{members_with}
use Rattle.command_line.proofs.bodies.put_all.Given as goal

-- with the words that are left they become the members of all
abbrev pub invariant-loop-word : goal.invariant-loop-word
invariant-loop-word l = members_with (members_view l.members.entries) (drop l.word-index l.words)
    ≡ members_with (members_view l.initial.members.entries) l.words
