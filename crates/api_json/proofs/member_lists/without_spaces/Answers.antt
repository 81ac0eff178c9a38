use Rattle.broker_types.specs.Words.{ap, ◌∙◌}
use Rattle.api_json.specs.Words.{before_spaces}
use Rattle.api_json.proofs.Spaces.{trimmed_front, trimmed_back}
use Rattle.api_json.proofs.member_lists.without_spaces.Goals as goal

pub returns : goal.returns
returns c = trimmed_back _ _ c.trim_end_matches.ensures.matches
    ∙ ap before_spaces (trimmed_front _ _ c.trim_start_matches.ensures.matches)
