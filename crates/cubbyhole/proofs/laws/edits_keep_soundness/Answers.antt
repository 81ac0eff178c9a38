use Rattle.cubbyhole.specs.Words.{write_sound, delete_sound, drop_owner_sound}
use Rattle.cubbyhole.proofs.laws.edits_keep_soundness.Goals as goal

pub returns-clause-written : goal.returns-clause-written
returns-clause-written c forms who b t path object sound is_path is_object =
    write_sound forms who b t sound path object is_path is_object

pub returns-clause-deleted : goal.returns-clause-deleted
returns-clause-deleted c forms who b t path sound = delete_sound forms who b t sound path

pub returns-clause-dropped : goal.returns-clause-dropped
returns-clause-dropped c forms who b t sound = drop_owner_sound forms who b t sound
