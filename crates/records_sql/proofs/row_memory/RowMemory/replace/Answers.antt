use Rattle.std.proofs.Common.{ap, ◌∙◌}
use Rattle.records.specs.Words.{sym, subst, insert, RowKey}
use Rattle.records_sql.specs.Words.{Memory, AreFound, IsCalmUntil}
use Rattle.records_sql.proofs.AgreeLemmas.{found_put, calm_put, got_put}
use Rattle.records_sql.proofs.row_memory.RowMemory.replace.Goals as goal

pub returns : goal.returns
returns c rows agrees =
    let q : RowKey = (c.args.kind, c.args.key.now) in
    let row = c.args.row.now in
    let known =
    subst (λ n. IsCalmUntil n rows)
    (sym (ap (λ (m : Memory). m.calm_until) c.self.view_is ∙ c.drop_key.ensures.calm)) agrees.calm in
    c.keep.ensures (insert rows q row)
    (record {
      entries = subst (λ es. AreFound es (insert rows q row)) (sym (ap (λ (m : Memory). m.entries) c.self.view_is))
          (found_put rows c.args.self.now.entries agrees.entries q row _ c.drop_key.ensures.others);
      calm = calm_put rows q c.self.inside.calm_until known row c.sooner-self-inside.result
          c.sooner-self-inside.ensures.before c.sooner-self-inside.ensures.due;
    })
    (sym (got_put rows q row))
