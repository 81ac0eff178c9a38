-- What a task makes of a broker (this project's definition).
use Rattle.std.specs.Prelude.{◌≡◌, if◌then◌else◌, ℕ, List, Bool, Option, Some, None, length}
use Rattle.broker_model.specs.Words.{Broker, Text, Rows}
use Rattle.broker_types.specs.declared.words.Words.{Words}
use Rattle.broker_rows.specs.Representing.{Represents}
use Rattle.maintenance.specs.Choosing.{Choice, is_other_root, is_no_lasting_root, without_where}
use Rattle.maintenance.specs.Maintained.{responses_of, without_responses}
use Rattle.maintenance.specs.NewRoot.{first_new, root_text, with_new_root}
use Rattle.maintenance.specs.declared.task.Done.{Done}
use Rattle.maintenance.specs.declared.task.Task.{Task}
use Rattle.maintenance.specs.declared.task.Task.TheVariants.{NewRoot, AfterRestore}

-- the broker without the tokens that are chosen, if that is asked for
abbrev pub without_if : Bool → Choice → Broker → Broker
without_if asked p b = if asked then without_where p b else b

-- The rows are those of the broker with one more root token of this text, by the first draw that is new, and without
-- the other root tokens if that is asked for; or those of the broker as it was, if no draw is new.
abbrev pub MakesRootAlone : Broker → ℕ → List Words → Bool → Rows → Option Text → Type 0
MakesRootAlone b moment draws revokes rows None = (first_new b.used draws ≡ None) × Represents None rows b
MakesRootAlone b moment draws revokes rows (Some t) =
    (words : Words) × (first_new b.used draws ≡ Some words) × (t ≡ root_text words)
    × Represents None rows (without_if revokes (is_other_root (root_text words)) (with_new_root b moment words))

-- The rows are those of the broker without the responses that wait, of which there were so many, and without all tokens
-- but lasting root tokens if that is asked for.
abbrev pub IsRestored : Broker → Bool → Rows → ℕ → Type 0
IsRestored b revokes rows responses =
    Represents None rows (without_if revokes is_no_lasting_root (without_responses b))
    × (responses ≡ length (responses_of b))

-- the task is done to the broker b, of which the rows are then
abbrev pub IsDone : Task → Broker → Rows → Done → Type 0
IsDone (NewRoot moment draws revokes) b rows done =
    MakesRootAlone b moment draws.now revokes rows done.root
IsDone (AfterRestore revokes) b rows done = IsRestored b revokes rows done.responses
