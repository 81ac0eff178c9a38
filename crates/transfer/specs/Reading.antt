-- What is read of a file of rows (this project's definition).
use Rattle.std.specs.Prelude.{◌≡◌, ◌++◌, ℕ, List, length, map, true, Option, Some, None, Result, Ok, Err, ⊤}
use Rattle.std.specs.Io.KnownBytes.{Consumes}
use Rattle.records.specs.Words.{RowKey, Rows, Text, entries, lacks, line_feed}
use Rattle.records.specs.declared.row.Row.{Row}
use Rattle.row_lines.specs.Lines.{row_in}
use Rattle.sha2.specs.Hashers.{Holds256}
use Rattle.sha2.specs.declared.Sha256.{Sha256}
use Rattle.transfer.specs.Files.{IsHead, fed, fed_lines, tail}
use Rattle.transfer.specs.LineReads.{left_of}
use Rattle.transfer.specs.declared.lines.Lines.{Lines}
use Rattle.transfer.specs.declared.refusal.Why.{Why}

-- the bytes that are left, if they are known
abbrev pub left_in : {R : Type 0} → (R → Option (List ℕ)) → Lines R → Option (List ℕ)
left_in left lines = left_of left lines.reader

-- the sum has these bytes more
abbrev pub IsSummed : Sha256 → Sha256 → List ℕ → Type 0
IsSummed old new bytes = (m : List ℕ) → Holds256 old m → Holds256 new (m ++ bytes)

-- these bytes were taken, and summed
abbrev pub IsRead : {R : Type 0} → (R → Option (List ℕ)) → Lines R → Lines R → List ℕ → Type 0
IsRead left old new bytes =
    Consumes (left_in left old) (left_in left new) bytes × IsSummed old.hasher new.hasher bytes

-- the first line was taken, and summed alone
abbrev pub IsHeadRead : {R : Type 0} → (R → Option (List ℕ)) → Lines R → Lines R → Result ℕ Why → Type 0
IsHeadRead left old new (Ok count) =
    (line : Text) × IsHead count line × Consumes (left_in left old) (left_in left new) (fed line)
    × Holds256 new.hasher (fed line)
IsHeadRead left old new (Err why) = ⊤

-- the line of a row was taken
abbrev pub IsRowRead : {R : Type 0} → (R → Option (List ℕ)) → Lines R → Lines R → Result (RowKey × Row) Why → Type 0
IsRowRead left old new (Ok e) =
    (line : Text) × (row_in line ≡ Some e) × (lacks line_feed line ≡ true) × IsRead left old new (fed line)
IsRowRead left old new (Err why) = ⊤

-- the last line was left, and nothing behind it
abbrev pub IsTailRead : {R : Type 0} → (R → Option (List ℕ)) → Lines R → Option Why → Type 0
IsTailRead left old None =
    (before text : List ℕ) → Holds256 old.hasher before → left_in left old ≡ Some text → text ≡ fed (tail before)
IsTailRead left old (Some why) = ⊤

-- so many rows were taken, each by its line, in the order of kinds and keys
pub record AreRowsRead {R : Type 0} (left : R → Option (List ℕ)) (old new : Lines R) (count : ℕ) (rows : Rows)
    : Type 0 where
  pub lines : List Text
  pub each : map row_in lines ≡ map Some (entries rows)
  pub counted : length lines ≡ count
  pub taken : IsRead left old new (fed_lines lines)
