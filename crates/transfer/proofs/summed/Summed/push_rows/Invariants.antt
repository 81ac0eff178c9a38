use Rattle.std.proofs.Common.{take}
use Rattle.transfer.specs.Writing.{Writes}
use Rattle.transfer.proofs.summed.Summed.push_rows.Given as goal

-- the lines of the rows so far were pushed
abbrev pub invariant-loop-entry : goal.invariant-loop-entry
invariant-loop-entry g l = Writes g.W.Sink.written l.initial.self l.self (take l.entry-index l.page)
