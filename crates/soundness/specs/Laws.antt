-- Laws of sound rows, as statements (this project's definition).
use Rattle.broker_model.specs.Words.{None, Broker, table_of, Rows}
use Rattle.broker_rows.specs.Words.{Represents}
use Rattle.soundness.specs.declared.trouble.Trouble.{Trouble}
use Rattle.soundness.specs.Broken.{Breaks}
use Rattle.soundness.specs.SoundRows.{AreSound}

-- the rows are those of a sound broker, between two requests
abbrev pub AreOfABroker : Rows → Type 0
AreOfABroker rows = (b : Broker) × Represents None rows b

-- rows that keep the rules are those of a sound broker
abbrev pub SoundRowsAreOfABroker : Type 0
SoundRowsAreOfABroker = (rows : Rows) → AreSound (table_of rows) → AreOfABroker rows

-- and the rows of a sound broker keep them
abbrev pub RowsOfABrokerAreSound : Type 0
RowsOfABrokerAreSound = (rows : Rows) → AreOfABroker rows → AreSound (table_of rows)

-- rows in which a row breaks a rule are not
abbrev pub BrokenRowsAreOfNoBroker : Type 0
BrokenRowsAreOfNoBroker = (rows : Rows) (t : Trouble) → Breaks (table_of rows) t → AreOfABroker rows → ⊥
