-- The rows of the ended among those of all tokens, taken out.
use Rattle.std.proofs.Common.{◌≡◌, ◌∷◌, if◌then◌else◌, List, [], true}
use Rattle.records.specs.Words.{AllByRecursion, Text, has, RowKey, Rows}
use Rattle.token_tree.specs.Words.{Row, without_token, IsTokenRow}

-- the rows of the ended among the entries can be read
abbrev pub AreReadableEnded : List Text → List (RowKey × Row) → Type 0
AreReadableEnded ended es = AllByRecursion (λ e. has ended e.0.1 ≡ true → IsTokenRow e) es

-- the rows without those of the ended among the entries, and of their accessors
abbrev pub without_ended : List Text → List (RowKey × Row) → Rows → Rows
without_ended ended [] rows = rows
without_ended ended (e ∷ es) rows = without_ended ended es (if has ended e.0.1 then without_token rows e else rows)
