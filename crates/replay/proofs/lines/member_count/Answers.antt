use Rattle.records.specs.Words.{◌∙◌, Option, ap, option_map_or}
use Rattle.serde_json.specs.Data.{Members}
use Rattle.serde_json.specs.Events.{members_len}
use Rattle.replay.proofs.LineLemmas.{length-members}
use Rattle.replay.proofs.lines.member_count.Goals as goal

pub returns-in-Some : goal.returns-in-Some
returns-in-Some c =
    c.len.ensures.len ∙ length-members c.in-Some.members.now.entries
    ∙ ap (λ (o : Option Members). option_map_or members_len o 0) c.in-Some.ensures
