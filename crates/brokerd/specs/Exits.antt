-- How the program ends (this project's).
use Rattle.std.specs.Prelude.{ℕ}
use Rattle.replay.specs.declared.replaying.Exit.{Exit}
use Rattle.database_check.specs.declared.all.AllFindings.{AllFindings}
use Rattle.database_check.specs.declared.all.AllFindings.TheVariants.{AllSound, InTrouble}
use Rattle.database_check.specs.declared.checking.Finding.{Finding}
use Rattle.database_check.specs.declared.checking.Finding.TheVariants.{Sound, Unsound}
use Rattle.replay.specs.declared.replaying.Exit.TheVariants.{Done, Faulted, BadLine}

-- the status that the program ends with after a replay
abbrev pub status_after : Exit → ℕ
status_after Done = 0
status_after (Faulted number) = 1
status_after (BadLine line) = 2

-- the status that the program ends with after a check of all rows
abbrev pub status_of_all : AllFindings → ℕ
status_of_all (AllSound counts) = 0
status_of_all (InTrouble defects) = 1

-- the status that the program ends with after a check
abbrev pub status_of : Finding → ℕ
status_of (Sound counts) = 0
status_of (Unsound defect) = 1
