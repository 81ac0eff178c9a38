use Rattle.records.specs.Words.{rules, ap, ◌∙◌, filter, nat_eq, starts_with, filter_same}
use Rattle.records_sql.proofs.reading.entries_under.Goals as goal

pub returns-clause-entries : goal.returns-clause-entries
returns-clause-entries c =
    filter_same _ _ _ (λ x b f' k. search rules) _ _ c.retain.ensures.filtered
    ∙ ap (filter (λ e. starts_with nat_eq e.0.1 c.args.prefix.now)) c.in_ok-list.ensures.entries
