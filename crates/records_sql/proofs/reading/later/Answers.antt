use Rattle.records.specs.Words.{sym, ap, ◌∙◌, is_lt}
use Rattle.records_sql.proofs.BoundLemmas.{later_second, later_first}
use Rattle.records_sql.proofs.reading.later.Goals as goal

pub returns-then-is_lt : goal.returns-then-is_lt
returns-then-is_lt c =
    later_second c.args.a.now c.args.b.now (sym (c.is_lt.ensures ∙ ap is_lt c.cmp.ensures) ∙ c.if-is_lt.true)

pub returns-else-is_lt : goal.returns-else-is_lt
returns-else-is_lt c =
    later_first c.args.a.now c.args.b.now (sym (c.is_lt.ensures ∙ ap is_lt c.cmp.ensures) ∙ c.if-is_lt.false)
