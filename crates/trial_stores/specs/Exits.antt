-- How the program ends (this project's).
use Rattle.broker_model.specs.Words.{ℕ}
use Rattle.replay.specs.declared.replaying.Exit.TheVariants.{Done, Faulted, BadLine}
use Rattle.trial_stores.specs.declared.ending.End.{End}
use Rattle.trial_stores.specs.declared.ending.End.TheVariants.{Replayed, Wrong}

-- the status that the program ends with after a task
abbrev pub status_after : End → ℕ
status_after (Replayed Done) = 0
status_after (Replayed (Faulted number)) = 1
status_after (Replayed (BadLine line)) = 2
status_after Wrong = 1
