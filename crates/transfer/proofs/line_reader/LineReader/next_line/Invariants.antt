use Rattle.std.proofs.Common.{◌≡◌, true}
use Rattle.std.specs.Io.KnownBytes.{Consumes}
use Rattle.records.specs.Words.{lacks, line_feed}
use Rattle.transfer.specs.LineReads.{left_of}
use Rattle.transfer.proofs.line_reader.LineReader.next_line.Given as goal

-- the line so far was taken
abbrev pub invariant-loop : goal.invariant-loop
invariant-loop g l =
    let left = left_of g.R.Source.left in
    record {
      taken : Consumes (left l.initial.self) (left l.self) l.line.items;
      one_line : lacks line_feed l.line.items ≡ true;
    }
