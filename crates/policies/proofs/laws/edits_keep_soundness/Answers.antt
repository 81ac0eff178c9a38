use Rattle.policies.specs.Words.{set_sound, deleted_sound}
use Rattle.policies.proofs.laws.edits_keep_soundness.Goals as goal

pub returns-clause-set : goal.returns-clause-set
returns-clause-set c is_object who b name text next sound short h =
    set_sound b next is_object who name text sound short h

pub returns-clause-deleted : goal.returns-clause-deleted
returns-clause-deleted c is_object who b name next sound h = deleted_sound b next is_object who name sound h
