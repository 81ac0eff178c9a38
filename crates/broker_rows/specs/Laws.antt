-- Laws of the rows of a broker, as statements (this project's definition).
use Rattle.std.specs.Prelude.{◌≡◌, ◌≢◌, ◌<◌, ◌≤◌, ◌^◌, ℕ, Option, None}
use Rattle.broker_model.specs.Words.{Text, greatest_moment, first_broker, Broker, Sound, forms, rows_of, table_of, Rows}
use Rattle.broker_model.specs.Words.{AreUpgraded, ArePlain, old_rows_of}
use Rattle.broker_rows.specs.Representing.{Represents}

-- rows represent one broker at most, whoever may have spent its last use
abbrev pub RowsRepresentOneBroker : Type 0
RowsRepresentOneBroker =
    (rows : Rows) (v w : Option Text) (b c : Broker) → Represents v rows b → Represents w rows c → b ≡ c

-- its rows represent the broker that a start makes of two different words
abbrev pub TheFirstBrokerIsRepresented : Type 0
TheFirstBrokerIsRepresented =
    (rows : Rows) (moment token_word accessor_word : ℕ) → moment ≤ greatest_moment
    → token_word < 2 ^ 128 → accessor_word < 2 ^ 128 → token_word ≢ accessor_word
    → table_of rows ≡ rows_of (first_broker moment token_word accessor_word)
    → Represents None rows (first_broker moment token_word accessor_word)

-- the rows of a broker whose keys have no settings, kept in format 1, represent it once they are upgraded
abbrev pub OldRowsRepresentTheirBroker : Type 0
OldRowsRepresentTheirBroker =
    (b : Broker) → Sound forms None b → ArePlain b.secrets → (old new : Rows) → table_of old ≡ old_rows_of b
    → AreUpgraded (table_of old) (table_of new) → Represents None new b

-- and rows that represent a broker go on to represent it
abbrev pub UpgradedRowsRepresentTheirBroker : Type 0
UpgradedRowsRepresentTheirBroker =
    (b : Broker) (old new : Rows) → Represents None old b → AreUpgraded (table_of old) (table_of new)
    → Represents None new b
