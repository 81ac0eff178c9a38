use Rattle.records.specs.Words.{ap, option_map_or, drop_waiting}
use Rattle.wrapping.specs.Words.{others_stay, drop_unknown}
use Rattle.wrapping.proofs.Responses.{names_its_own}
use Rattle.wrapping.proofs.laws.responses_go_alone.Goals as goal

pub returns-clause-others : goal.returns-clause-others
returns-clause-others c b t q differ = others_stay b t q differ

pub returns-clause-unknown : goal.returns-clause-unknown
returns-clause-unknown c b t none = drop_unknown b t none

pub returns-clause-accessor : goal.returns-clause-accessor
returns-clause-accessor c b t w one_place is =
    ap (λ o. option_map_or (drop_waiting b) o b) (names_its_own b one_place t w is)
