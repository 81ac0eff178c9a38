use Rattle.records.specs.Words.{sym, subst, arith, AreDue}
use Rattle.records_sql.specs.Words.{Memory, Agrees}
use Rattle.records_sql.proofs.AgreeLemmas.{none_due, due_of_none}
use Rattle.records_sql.proofs.row_memory.RowMemory.none_due.Goals as goal

pub returns-then-seconds-self : goal.returns-then-seconds-self
returns-then-seconds-self c rows agrees =
    let inside = subst (λ (m : Memory). Agrees m rows) (sym c.self.view_is) agrees in
    let none = none_due rows c.args.moment c.self.inside.calm_until inside.calm
    (omega (arith, c.if-seconds-self.true, c.seconds.ensures.value)) in
    subst (AreDue rows c.args.moment) (sym c.new.ensures.items) (due_of_none rows c.args.moment none)
