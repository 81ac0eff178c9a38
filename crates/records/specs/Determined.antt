-- What rows determine, as a statement (this project's).
use Rattle.std.specs.Prelude.{◌≡◌, Option}
use Rattle.broker_types.specs.Words.{Text, Broker, Forms, Sound}
use Rattle.records.specs.Ranges.{IsTokenInRange}
use Rattle.records.specs.RowForms.{entry_row}
use Rattle.records.specs.Rows.{rows_of}
use Rattle.records.specs.TokenEntry.{TokenEntry}

-- sound brokers with equal rows are equal
abbrev pub RowsDetermineTheBroker : Type 0
RowsDetermineTheBroker =
    (forms : Forms) (v w : Option Text) (b c : Broker) → Sound forms v b → Sound forms w c
    → rows_of b ≡ rows_of c → b ≡ c

-- entries of tokens that rows can hold are equal if their rows are
abbrev pub TokenRowsTellTheirEntries : Type 0
TokenRowsTellTheirEntries =
    (x y : TokenEntry) → IsTokenInRange x → IsTokenInRange y → entry_row x ≡ entry_row y → x ≡ y
