-- What is said before a database is opened (this project's format).
use Rattle.std.specs.Prelude.{◌+◌, ◌/◌, if◌then◌else◌, ◌++◌, ℕ, nat_lt, codes, decimal, Option, Some, None}
use Rattle.records.specs.Words.{Text}

-- so many bytes in megabytes, rounded
abbrev pub megabytes : ℕ → ℕ
megabytes bytes = (bytes + 500000) / 1000000

-- the name of a database and its size, from 20 MB on
abbrev pub opening_text : Text → ℕ → Option Text
opening_text path bytes =
    if nat_lt bytes 20000000 then None
    else Some (codes "opening " ++ (path ++ (codes ": " ++ (decimal (megabytes bytes) ++ codes " MB"))))
