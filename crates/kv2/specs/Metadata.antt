-- What is told of a secret besides its versions' texts (Vault's documentation, "KV secrets engine - version 2 (API)",
-- read secret metadata).
use Rattle.std.specs.Prelude.{◌∷◌, if◌then◌else◌, ℕ, List, [], nat_lt, map, Bool, is_none}
use Rattle.std.specs.FinMap as fin
use Rattle.records.specs.Words.{Key, Version, Text, KeyEntry, key_entry}
use Rattle.kv2.specs.declared.secret_metadata.VersionMetadata.{VersionMetadata}

-- a version with its number, without its text
abbrev pub version_metadata : ℕ × Version → VersionMetadata
version_metadata e =
    record { number = e.0; created = e.1.created; deleted = e.1.deleted; destroyed = is_none e.1.secret }

-- the oldest of versions in the order of their numbers: the number of the first, if it is above 1, else 0 (Vault's
-- documentation, same page: `oldest_version` in the sample response is 0 as long as version 1 is kept)
abbrev pub oldest_of : List VersionMetadata → ℕ
oldest_of [] = 0
oldest_of (v ∷ vs) = if nat_lt 1 v.number then v.number else 0

-- a key with its settings, its times and its versions
pub record Metadata : Type 0 where
  pub cas_required : Bool
  pub created : ℕ
  pub current : ℕ
  -- names and values, by name
  pub custom_metadata : List (Text × Text)
  pub max_versions : ℕ
  pub oldest : ℕ
  pub updated : ℕ
  pub versions : List VersionMetadata

-- the metadata of a key with these versions, in the order of their numbers
abbrev pub metadata_with : KeyEntry → List (ℕ × Version) → Metadata
metadata_with k vs = record {
  cas_required = k.cas_required;
  created = k.created;
  current = k.current;
  custom_metadata = k.custom_metadata;
  max_versions = k.max_versions;
  oldest = oldest_of (map version_metadata vs);
  updated = k.updated;
  versions = map version_metadata vs;
}

-- the metadata of a key
abbrev pub metadata_of : Key → Metadata
metadata_of k = metadata_with (key_entry k) (fin.entries k.versions)
