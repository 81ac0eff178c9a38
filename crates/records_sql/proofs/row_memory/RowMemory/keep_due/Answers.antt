use Rattle.std.proofs.Common.{◌+◌, sym, subst, ◌∙◌}
use Rattle.records_sql.specs.Words.{Memory, Agrees, IsCalmUntil}
use Rattle.records_sql.proofs.AgreeLemmas.{calm_after, none_listed}
use Rattle.records_sql.proofs.row_memory.RowMemory.keep_due.Goals as goal

pub returns-then-is_empty : goal.returns-then-is_empty
returns-then-is_empty c rows agrees due =
    let inside = subst (λ (m : Memory). Agrees m rows) (sym c.self.view_is) agrees in
    let none = none_listed rows c.args.moment c.args.due.now due (sym c.is_empty.ensures ∙ c.if-is_empty.true) in
    record {
      entries = inside.entries;
      calm = subst (λ n. IsCalmUntil (n + 1) rows) (sym c.seconds.ensures.value) (calm_after rows c.args.moment none);
    }
