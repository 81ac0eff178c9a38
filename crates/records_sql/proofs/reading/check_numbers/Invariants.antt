use Rattle.records.specs.Words.{None, drop}
use Rattle.records_sql.specs.Words.{AreNumbered}
use Rattle.records_sql.proofs.reading.check_numbers.Given as goal

-- what is to be read decides
abbrev pub invariant-loop-row : goal.invariant-loop-row
invariant-loop-row l = AreNumbered l.last (drop l.row-index l.rows) → AreNumbered None l.rows
