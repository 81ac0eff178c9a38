use Rattle.kv2.specs.Words.{write_sound, delete_sound, delete_versions_sound, undelete_sound, destroy_sound}
use Rattle.kv2.specs.Words.{remove_key_sound, drop_mount_sound, set_metadata_sound, set_config_sound}
use Rattle.kv2.proofs.laws.operations_keep_soundness.Goals as goal

pub returns-clause-written : goal.returns-clause-written
returns-clause-written c forms who b mount path cas object w sound is_path is_object is =
    write_sound forms who b sound mount path cas object w is_path is_object is

pub returns-clause-changed : goal.returns-clause-changed
returns-clause-changed c forms who b mount path ns sound = record {
  deleted = delete_sound forms who b sound mount path;
  versions_deleted = delete_versions_sound forms who b sound mount path ns;
  restored = undelete_sound forms who b sound mount path ns;
  destroyed = destroy_sound forms who b sound mount path ns;
}

pub returns-clause-removed : goal.returns-clause-removed
returns-clause-removed c forms who b mount path sound = record {
  removed = remove_key_sound forms who b sound mount path;
  dropped = drop_mount_sound forms who b sound mount path;
}

pub returns-clause-described : goal.returns-clause-described
returns-clause-described c forms who b mount path given sound is_name within =
    set_metadata_sound forms who b sound mount path given is_name within

pub returns-clause-set : goal.returns-clause-set
returns-clause-set c forms who b mount cas_required max_versions sound wide =
    set_config_sound forms who b sound mount cas_required max_versions wide
