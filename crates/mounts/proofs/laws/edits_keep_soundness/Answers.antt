use Rattle.mounts.specs.Words.{enabled_sound, disabled_sound}
use Rattle.mounts.proofs.laws.edits_keep_soundness.Goals as goal

pub returns-clause-enabled : goal.returns-clause-enabled
returns-clause-enabled c forms who b name type version next sound is =
    enabled_sound b next forms who name type version sound is

pub returns-clause-disabled : goal.returns-clause-disabled
returns-clause-disabled c forms who b name next sound is = disabled_sound b next forms who name sound is
