-- Rows with what was changed of them (this project's definition).
use Rattle.std.specs.Prelude.{[]}
use Rattle.std.specs.FinMap.{insert, remove}
use Rattle.records.specs.RowForms.{clock_row, used_row}
use Rattle.records.specs.Transaction.{Rows}
use Rattle.records.specs.declared.kind.Kind.TheVariants as kind
use Rattle.salvage.specs.declared.change.Change.{Change}
use Rattle.salvage.specs.declared.change.Change.TheVariants.{LeftOut, Marked, ClockSet}

-- the rows without the row that was left out, with the identifier that was marked, or with the clock that was set
abbrev pub changed : Rows → Change → Rows
changed rows (LeftOut k key defect) = remove rows (k, key)
changed rows (Marked identifier defect) = insert rows (kind.Used, identifier) used_row
changed rows (ClockSet moment) = insert rows (kind.Clock, []) (clock_row moment)
