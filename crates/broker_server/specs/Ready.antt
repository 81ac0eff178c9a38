-- Rows that are made ready to be served, or refused for one of them (this project's definition).
use Rattle.std.specs.Prelude.{◌≡◌, ◌⊎◌, ℕ, Bool, IsTrue, Option, None}
use Rattle.std.specs.FinMap as map
use Rattle.sqlite.specs.Recovery.{Image}
use Rattle.records.specs.Words.{Broker, Rows, Text, Words}
use Rattle.records_sql.specs.Words.{IsKeptIn}
use Rattle.broker_rows.specs.Words.{HasNoClock, Represents}
use Rattle.broker_sql.specs.Prepared.{IsPrepared}
use Rattle.database_check.specs.Findings.{OpenAsNone}
use Rattle.database_check.specs.declared.defect.Defect.{Defect}

-- Ready as an opening or a start makes them; and if they were to be checked, or there was none, those of a sound
-- broker.
pub record IsReady (checks : Bool) (moment : ℕ) (words : Words) (before after : Rows)
    (root : Option Text) : Type 0 where
  pub prepared : IsPrepared moment words before after root
  pub sound : IsTrue checks ⊎ (before ≡ map.empty) → (b : Broker) × Represents None after b

-- Refused: they were to be checked, have the row of the clock, and an opening makes no sound broker's rows of them, as
-- the defect tells.
pub record IsRefusedFor (checks : Bool) (before : Rows) (defect : Defect) : Type 0 where
  pub checked : IsTrue checks
  pub started : ¬ HasNoClock before
  pub unsound : OpenAsNone before defect

-- the same of the rows that two files keep, a database and its log
abbrev pub AreReadyOf : Image → Bool → ℕ → Words → Rows → Option Text → Type 0
AreReadyOf image checks moment words after root =
    (before : Rows) × IsKeptIn image before × IsReady checks moment words before after root

abbrev pub AreRefusedFor : Image → Bool → Defect → Type 0
AreRefusedFor image checks defect = (before : Rows) × IsKeptIn image before × IsRefusedFor checks before defect
