-- The names that specs and proofs cite most, passed on from one place. Declares nothing.
-- types of the crates below, and their variants
pub use Rattle.records.specs.declared.kind.Kind.{Kind}
pub use Rattle.records.specs.declared.row.Row.{Row}
-- definitions
pub use Rattle.kv2.specs.Changes.{change_of, IsTimely}
pub use Rattle.kv2.specs.InRange.{AreToldInRange, IsMetadataInRange, IsToldInRange}
pub use Rattle.kv2.specs.Metadata.{Metadata, metadata_of, metadata_with, oldest_of, version_metadata}
pub use Rattle.kv2.specs.SecretRows.{AreChanged, AreEntriesOf, AreReadableVersions, AreVersions, current_of}
pub use Rattle.kv2.specs.SecretRows.{described_entry, HasKey, HasMount, HasVersion, is_key_of, IsEntryOf, IsMetadataOf}
pub use Rattle.kv2.specs.SecretRows.{IsNumbered, IsReadableKey, IsReadableVersion, IsReadOf, KeepsOtherMounts}
pub use Rattle.kv2.specs.SecretRows.{KeepsOtherNames, new_entry, next_entry, pruned, rows_with_settings}
pub use Rattle.kv2.specs.SecretRows.{rows_with_version, version_entry, versions_prefix, with_current, with_description}
pub use Rattle.kv2.specs.SecretRows.{without_key, without_names, without_upto, WrittenRows}
pub use Rattle.kv2.specs.Secrets.{drop_mount, key_at, metadata, read, remove_key, secret_name, set_config, set_metadata}
pub use Rattle.kv2.specs.Secrets.{with_key, with_settings, write, write_over, Written, written}
pub use Rattle.kv2.specs.Versions.{asked_number, checked, described, destroyed, Found, is_among, key_or_new}
pub use Rattle.kv2.specs.Versions.{new_version, numbered, or_if_zero, restored, Settings, soft_deleted, version_of}
pub use Rattle.kv2.specs.Versions.{Versions, versions_kept, with_changed, with_version, WriteAnswer}
-- laws
pub use Rattle.kv2.specs.Laws.{custom_metadata_at, HasNoSecret, IsOldest, last_number, version_at}
pub use Rattle.kv2.specs.SoundLaws.{delete_sound, delete_versions_sound, destroy_sound, drop_mount_sound}
pub use Rattle.kv2.specs.SoundLaws.{is_secret_name, remove_key_sound, room, secrets_evolve, set_config_sound}
pub use Rattle.kv2.specs.SoundLaws.{set_metadata_sound, settings_evolve, undelete_sound, write_is, write_sound}
pub use Rattle.kv2.specs.VersionLaws.{get-change_versions, next_versions}
