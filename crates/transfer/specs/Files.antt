-- What a file of rows is (this project's export format): lines, each ended by a line feed. The first has the number of
-- the format, how many rows there are, and the version of the program that wrote it. Then comes the line of each row,
-- in the order of kinds and keys. The last has the SHA-256 (FIPS 180-4) of all bytes before it. Nothing follows it.
use Rattle.std.specs.Prelude.{◌≡◌, ◌∷◌, ◌++◌, ℕ, List, [], length, map, flat_map, codes, decimal, Some, true}
use Rattle.broker_types.specs.Words.{Text, entries}
use Rattle.records.specs.Words.{lacks, line_feed, Rows}
use Rattle.hex.specs.Hex.{encode_lower}
use Rattle.sha2.specs.Sha256.{sha256}
use Rattle.row_lines.specs.Lines.{row_in}

-- a line with its line feed
abbrev pub fed : Text → List ℕ
fed line = line ++ line_feed ∷ []

-- lines, one after another
abbrev pub fed_lines : List Text → List ℕ
fed_lines lines = flat_map fed lines

-- the first line, of a version of the program and of so many rows
abbrev pub head : Text → ℕ → Text
head version count =
    codes "{\"format\":1,\"rows\":" ++ (decimal count ++ (codes ",\"version\":\"" ++ (version ++ codes "\"}")))

-- the first line, of one version and of so many rows
abbrev pub IsHead : ℕ → Text → Type 0
IsHead count line = (version : Text) × (lacks line_feed version ≡ true) × (line ≡ head version count)

-- the last line, of the bytes before it
abbrev pub tail : List ℕ → Text
tail before = codes "{\"sha256\":\"" ++ (encode_lower (sha256 before) ++ codes "\"}")

-- bytes with their last line
abbrev pub ended : List ℕ → List ℕ
ended before = before ++ fed (tail before)

-- the file of these rows, and of no others
pub record IsFileOf (rows : Rows) (text : List ℕ) : Type 0 where
  pub first : Text
  pub lines : List Text
  pub is_head : IsHead (length lines) first
  -- each row has its line, in the order of kinds and keys
  pub each : map row_in lines ≡ map Some (entries rows)
  pub whole : text ≡ ended (fed first ++ fed_lines lines)
