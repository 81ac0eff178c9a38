-- Laws of files of rows, as statements (this project's definition).
use Rattle.std.specs.Prelude.{◌≡◌, ℕ, List}
use Rattle.records.specs.Words.{Rows}
use Rattle.transfer.specs.Files.{IsFileOf}

-- a text is the file of one set of rows: what an export wrote is read as the same rows
abbrev pub FilesHaveOneMeaning : Type 0
FilesHaveOneMeaning = (text : List ℕ) (rows others : Rows) → IsFileOf rows text → IsFileOf others text → others ≡ rows
