-- What a sink that sums its bytes has got (this project's definition).
use Rattle.std.specs.Prelude.{◌≡◌, ◌++◌, ℕ, List, length, map, Option, Some}
use Rattle.std.specs.Io.KnownBytes.{Appends}
use Rattle.records.specs.Words.{RowKey, Rows, Text, entries}
use Rattle.records.specs.declared.row.Row.{Row}
use Rattle.row_lines.specs.Lines.{row_in}
use Rattle.sha2.specs.Hashers.{Holds256}
use Rattle.transfer.specs.Files.{IsFileOf, IsHead, fed, fed_lines}
use Rattle.transfer.specs.declared.summed.Summed.{Summed}

-- these bytes more, in the sink and in the sum
abbrev pub IsMore : {W : Type 0} → (W → Option (List ℕ)) → Summed W → Summed W → List ℕ → Type 0
IsMore written old new bytes =
    Appends (written old.sink) (written new.sink) bytes
    × ((m : List ℕ) → Holds256 old.hasher m → Holds256 new.hasher (m ++ bytes))

-- the first line of a file of so many rows, and the sum of it alone
abbrev pub IsBegun : {W : Type 0} → (W → Option (List ℕ)) → Summed W → Summed W → ℕ → Type 0
IsBegun written old new count =
    (line : Text) × IsHead count line × Appends (written old.sink) (written new.sink) (fed line)
    × Holds256 new.hasher (fed line)

-- the lines of these rows more
abbrev pub Writes : {W : Type 0} → (W → Option (List ℕ)) → Summed W → Summed W → List (RowKey × Row) → Type 0
Writes written old new rows =
    (lines : List Text) × (map row_in lines ≡ map Some rows) × IsMore written old new (fed_lines lines)

-- The file of the rows more, of which there are so many.
pub record IsWritten {W : Type 0} (written : W → Option (List ℕ)) (old new : Summed W) (rows : Rows) (count : ℕ)
    : Type 0 where
  pub text : List ℕ
  pub is_file : IsFileOf rows text
  pub counted : count ≡ length (entries rows)
  pub appended : Appends (written old.sink) (written new.sink) text
