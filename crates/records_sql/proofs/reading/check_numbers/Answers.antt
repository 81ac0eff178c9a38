use Rattle.records.specs.Words.{refl}
use Rattle.records_sql.proofs.NumberLemmas.{next_numbered}
use Rattle.records_sql.proofs.reading.check_numbers.Goals as goal

pub loop-row-preserved : goal.loop-row-preserved
loop-row-preserved c rest =
    c.loop-row.invariant
    (next_numbered c.loop-row.last c.args.rows.now c.loop-row.row-index c.row-item.result c.in_ok-number.number
    c.in_ok-kind_at.field-0
    c.loop-row-test.true c.row-item.is c.in_ok-number.ensures.value c.in_ok-kind_at.ensures.value
    c.in_ok-kind_at.ensures.exact c.in_ok-due_at.ensures.exact
    (c.if-not-is_over.ensures refl) rest)
