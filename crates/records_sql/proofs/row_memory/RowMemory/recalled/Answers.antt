use Rattle.std.proofs.Common.{◌≡◌, Some, Result, Ok, Err, IfOk, sym, ap, ◌∙◌}
use Rattle.records.specs.Words.{result_ok, none-some, same_Some, option_copied}
use Rattle.records_sql.specs.Words.{Row, Memory}
use Rattle.records_sql.proofs.AgreeLemmas.{recalled_row}
use Rattle.records_sql.proofs.row_memory.RowMemory.recalled.Goals as goal

-- what was copied is the row
copied_row : {E : Type 0} (r : Result Row E) (x row : Row) → Some x ≡ result_ok r → IfOk r (λ y. y ≡ row) → x ≡ row
copied_row (Ok y) x row is same = same_Some x y is ∙ same
copied_row (Err e) x row is same = absurd (none-some x (sym is))

pub returns-in_ok-ok-in-Some : goal.returns-in_ok-ok-in-Some
returns-in_ok-ok-in-Some c rows agrees =
    ap (λ (row : Row). Some row)
    (copied_row c.copied.result c.in_ok-ok-in-Some.field-0 c.in-Some.row.now c.in_ok-ok-in-Some.ensures.value
    c.copied.ensures)
    ∙ c.in-Some.ensures
    ∙ recalled_row c.args.self.now rows agrees c.self.inside.rows (ap (λ (m : Memory). m.entries) c.self.view_is)
    c.in_ok-as_ref.field-0.now (ap option_copied (sym c.in_ok-as_ref.was) ∙ c.as_ref.ensures.value)
    c.args.kind c.args.key.now c.in_ok-remembered.remembered.now
    (ap option_copied (sym c.in_ok-remembered.was) ∙ c.peek.ensures) (c.is_of.ensures c.if-not-is_of.false)

pub returns-in-None : goal.returns-in-None
returns-in-None c rows agrees =
    c.in-None.ensures
    ∙ recalled_row c.args.self.now rows agrees c.self.inside.rows (ap (λ (m : Memory). m.entries) c.self.view_is)
    c.in_ok-as_ref.field-0.now (ap option_copied (sym c.in_ok-as_ref.was) ∙ c.as_ref.ensures.value)
    c.args.kind c.args.key.now c.in_ok-remembered.remembered.now
    (ap option_copied (sym c.in_ok-remembered.was) ∙ c.peek.ensures) (c.is_of.ensures c.if-not-is_of.false)
