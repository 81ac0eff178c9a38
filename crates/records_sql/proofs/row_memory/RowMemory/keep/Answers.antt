use Rattle.std.proofs.Common.{sym, subst, ap, ap₂, Option, ◌∙◌}
use Rattle.records.specs.Words.{get, Text}
use Rattle.records_sql.specs.Words.{Kind, Row, Memory, AreFound, IsCalmUntil}
use Rattle.records_sql.specs.Memory.{entries_of}
use Rattle.records_sql.proofs.row_memory.RowMemory.keep.Goals as goal

pub returns : goal.returns
returns c rows agrees is =
    let entries = ap entries_of c.take.ensures.value ∙ ap (λ (m : Memory). m.entries) c.self.view_is in
    let found =
    ap₂ (λ (v : Kind × Option Row) (t : Text). get rows (v.0, t)) c.in-Some.ensures.row c.in-Ok.ensures.ok
    ∙ sym is ∙ sym (ap (λ (v : Kind × Option Row). v.1) c.in-Some.ensures.row) in
    record {
      entries = c.with_row.ensures.found rows (subst (λ es. AreFound es rows) (sym entries) agrees.entries) found;
      calm = subst (λ n. IsCalmUntil n rows) (sym (ap (λ (m : Memory). m.calm_until) c.self.view_is)) agrees.calm;
    }
