use Rattle.records.specs.Words.{rules, filter_same}
use Rattle.records.proofs.list.keep_upto.Goals as goal

pub returns : goal.returns
returns c = filter_same _ _ _ (λ x b f' k. search rules) _ _ c.retain.ensures.filtered
