use Rattle.records.specs.Words.{rules, take, ap, ◌∙◌, filter_same}
use Rattle.records.proofs.list.keep_from.Goals as goal

pub returns : goal.returns
returns c =
    c.truncate.ensures.items ∙ ap (take c.args.count)
    (filter_same _ _ _ (λ x b f' k. search rules) _ _ c.retain.ensures.filtered)
