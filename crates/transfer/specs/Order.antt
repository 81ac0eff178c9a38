-- The order of the rows of a file (this project's definition).
use Rattle.std.specs.Prelude.{◌≡◌, Option, Some, None, ⊤}
use Rattle.records.specs.Words.{Less, RowKey, key_cmp}

-- a kind and key is above the last, if there is one
abbrev pub IsAfter : Option RowKey → RowKey → Type 0
IsAfter None key = ⊤
IsAfter (Some last) key = key_cmp last key ≡ Less
