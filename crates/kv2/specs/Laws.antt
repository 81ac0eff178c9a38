-- Laws of versioned secrets, as statements (this project's; Vault's documentation, "KV secrets engine - version 2").
use Rattle.std.specs.Prelude.{◌≡◌, ◌≢◌, ◌<◌, ◌≤◌, ◌+◌, ◌^◌, ℕ, nat_eq, List, [], map, Bool, true, false, Ok, Option}
use Rattle.records.specs.Words.{Some, None, starts_with, option_map_or, Text, same, Map, get, entries, Key, Version}
use Rattle.records.specs.Words.{Broker, Mount, Evolves, Forms, Sound, SoundSecrets, IsPathText, IsObjectText}
use Rattle.records.specs.Words.{IsSecretName, is_ascending}
use Rattle.std.specs.FinMap as fin
use Rattle.kv2.specs.InRange.{AreWithinLimits}
use Rattle.kv2.specs.Metadata.{metadata_of}
use Rattle.kv2.specs.Secrets.{Written, secret_name, key_at, write, set_metadata, delete, delete_versions, undelete}
use Rattle.kv2.specs.Secrets.{destroy, remove_key, drop_mount, set_config}
use Rattle.kv2.specs.Versions.{Settings, version_of}

-- ---- soundness is kept, whoever may have spent its last use

-- a write of an object at a path leaves a sound broker sound
abbrev pub WriteKeepsSoundness : Type 0
WriteKeepsSoundness =
    (forms : Forms) (who : Option Text) (b : Broker) (mount path : Text) (cas : Option ℕ) (object : Text) (w : Written)
    → Sound forms who b → IsPathText path → IsObjectText forms object → write b mount path cas object ≡ Ok w
    → Sound forms who w.next

-- so do changes of versions
pub record ChangesKeepSoundness (forms : Forms) (who : Option Text) (b : Broker) (mount path : Text) (ns : List ℕ)
    : Type 0 where
  pub deleted : Sound forms who (delete b mount path)
  pub versions_deleted : Sound forms who (delete_versions b mount path ns)
  pub restored : Sound forms who (undelete b mount path ns)
  pub destroyed : Sound forms who (destroy b mount path ns)

-- removals
pub record RemovalsKeepSoundness (forms : Forms) (who : Option Text) (b : Broker) (mount path : Text) : Type 0 where
  pub removed : Sound forms who (remove_key b mount path)
  pub dropped : Sound forms who (drop_mount b mount)

-- settings of a secret that are within their limits
abbrev pub MetadataKeepSoundness : Type 0
MetadataKeepSoundness =
    (forms : Forms) (who : Option Text) (b : Broker) (mount path : Text) (given : Settings)
    → Sound forms who b → IsSecretName (secret_name mount path) → AreWithinLimits given
    → Sound forms who (set_metadata b mount path given)

-- and settings of a mount that are numbers of 64 bits
abbrev pub SettingsKeepSoundness : Type 0
SettingsKeepSoundness =
    (forms : Forms) (who : Option Text) (b : Broker) (mount : Text) (cas_required : Option Bool)
    (max_versions : Option ℕ) → Sound forms who b → ((n : ℕ) → max_versions ≡ Some n → n < 2 ^ 64)
    → Sound forms who (set_config b mount cas_required max_versions)

-- ---- brokers evolve

-- a broker evolves when its secrets change
abbrev pub SecretsEvolve : Type 0
SecretsEvolve = (b : Broker) (secrets : Map Key) → Evolves b (record b { secrets = secrets })

-- and when its mounts do
abbrev pub SettingsEvolve : Type 0
SettingsEvolve = (b : Broker) (mounts : Map Mount) → Evolves b (record b { mounts = mounts })

-- ---- what a write does

-- the last number that was given at a path; 0 for none
abbrev pub last_number : Broker → Text → Text → ℕ
last_number b mount path = option_map_or (λ (k : Key). k.current) (key_at b mount path) 0

-- a write gives the number after the last one, which is the last from then on
abbrev pub NumbersAreNew : Type 0
NumbersAreNew =
    (b : Broker) (mount path : Text) (cas : Option ℕ) (object : Text) (w : Written)
    → write b mount path cas object ≡ Ok w
    → (w.number ≡ last_number b mount path + 1) × (last_number w.next mount path ≡ w.number)

-- no other operation on the key changes the last number, as long as the key is there
pub record NumbersStay (b : Broker) (mount path : Text) (ns : List ℕ) : Type 0 where
  pub deleted : last_number (delete b mount path) mount path ≡ last_number b mount path
  pub versions_deleted : last_number (delete_versions b mount path ns) mount path ≡ last_number b mount path
  pub restored : last_number (undelete b mount path ns) mount path ≡ last_number b mount path
  pub destroyed : last_number (destroy b mount path ns) mount path ≡ last_number b mount path
  pub described : (given : Settings) → last_number (set_metadata b mount path given) mount path
      ≡ last_number b mount path

-- a write of one key changes no other
abbrev pub OthersStay : Type 0
OthersStay =
    (b : Broker) (mount path : Text) (cas : Option ℕ) (object : Text) (w : Written)
    → write b mount path cas object ≡ Ok w → (q : Text) → same q (secret_name mount path) ≡ false
    → get w.next.secrets q ≡ get b.secrets q

-- nor does a change of versions or of settings, or the removal of a key, change the secret of another name
pub record OthersAreKept (b : Broker) (mount path : Text) (ns : List ℕ) (q : Text) : Type 0 where
  pub deleted : get (delete b mount path).secrets q ≡ get b.secrets q
  pub versions_deleted : get (delete_versions b mount path ns).secrets q ≡ get b.secrets q
  pub restored : get (undelete b mount path ns).secrets q ≡ get b.secrets q
  pub destroyed : get (destroy b mount path ns).secrets q ≡ get b.secrets q
  pub described : (given : Settings) → get (set_metadata b mount path given).secrets q ≡ get b.secrets q
  pub removed : get (remove_key b mount path).secrets q ≡ get b.secrets q

-- a mount that is dropped takes no secret along whose name does not begin with its own
abbrev pub OtherMountsStay : Type 0
OtherMountsStay =
    (b : Broker) (mount q : Text) → starts_with nat_eq q (secret_name mount []) ≡ false
    → get (drop_mount b mount).secrets q ≡ get b.secrets q

-- ---- what is destroyed stays so

-- the version at a path
abbrev pub version_at : Broker → Text → Text → ℕ → Option Version
version_at b mount path n = version_of (key_at b mount path) n

-- it has no secret, if it is there
abbrev pub HasNoSecret : Option Version → Type 0
HasNoSecret o = (v : Version) → o ≡ Some v → v.secret ≡ None

-- a version that was there without a secret has none after a write
abbrev pub WriteRestoresNothing : Type 0
WriteRestoresNothing =
    (forms : Forms) (b : Broker) (mount path : Text) (cas : Option ℕ) (object : Text) (w : Written) (n : ℕ)
    → SoundSecrets forms b.secrets → write b mount path cas object ≡ Ok w → version_at b mount path n ≢ None
    → HasNoSecret (version_at b mount path n) → HasNoSecret (version_at w.next mount path n)

-- nor after a change of versions, or of settings
pub record ChangesRestoreNothing (b : Broker) (mount path : Text) (ns : List ℕ) (n : ℕ) : Type 0 where
  pub deleted : HasNoSecret (version_at (delete b mount path) mount path n)
  pub versions_deleted : HasNoSecret (version_at (delete_versions b mount path ns) mount path n)
  pub restored : HasNoSecret (version_at (undelete b mount path ns) mount path n)
  pub destroyed : HasNoSecret (version_at (destroy b mount path ns) mount path n)
  pub described : (given : Settings) → HasNoSecret (version_at (set_metadata b mount path given) mount path n)

-- ---- custom metadata

-- the custom metadata of the secret at a path, by name; none if it is not there
abbrev pub custom_metadata_at : Broker → Text → Text → List (Text × Text)
custom_metadata_at b mount path = option_map_or (λ (k : Key). entries k.custom_metadata) (key_at b mount path) []

-- what is given stands, whatever was there; if none are given, those stay that were there; and no version changes
pub record MetadataAreSet (b : Broker) (mount path : Text) (given : Settings) : Type 0 where
  pub replaced : (es : List (Text × Text)) → given.custom_metadata ≡ Some es → is_ascending (map (λ e. e.0) es) ≡ true
      → custom_metadata_at (set_metadata b mount path given) mount path ≡ es
  pub kept : given.custom_metadata ≡ None
      → custom_metadata_at (set_metadata b mount path given) mount path ≡ custom_metadata_at b mount path
  pub versions : (n : ℕ) → version_at (set_metadata b mount path given) mount path n ≡ version_at b mount path n

-- a write of a version changes no custom metadata
abbrev pub MetadataStayAtWrites : Type 0
MetadataStayAtWrites =
    (b : Broker) (mount path : Text) (cas : Option ℕ) (object : Text) (w : Written)
    → write b mount path cas object ≡ Ok w
    → custom_metadata_at w.next mount path ≡ custom_metadata_at b mount path

-- nor does a change of versions
pub record MetadataStay (b : Broker) (mount path : Text) (ns : List ℕ) : Type 0 where
  pub deleted : custom_metadata_at (delete b mount path) mount path ≡ custom_metadata_at b mount path
  pub versions_deleted : custom_metadata_at (delete_versions b mount path ns) mount path
      ≡ custom_metadata_at b mount path
  pub restored : custom_metadata_at (undelete b mount path ns) mount path ≡ custom_metadata_at b mount path
  pub destroyed : custom_metadata_at (destroy b mount path ns) mount path ≡ custom_metadata_at b mount path

-- ---- the oldest version

-- What is told as the oldest version of a key is the smallest number that is kept, if that is above 1; else it is 0
-- (Vault's documentation, "KV secrets engine - version 2 (API)", read secret metadata).
pub record IsOldest (k : Key) (oldest : ℕ) : Type 0 where
  -- no version that is kept has a smaller number
  pub smallest : (n : ℕ) (v : Version) → fin.get k.versions n ≡ Some v → oldest ≤ n
  -- it is 0, or else above 1 and kept
  pub kept : oldest ≢ 0 → (1 < oldest) × (fin.get k.versions oldest ≢ None)
  -- it is 0 only if none is kept or one that is not above 1
  pub first : (n : ℕ) (v : Version) → oldest ≡ 0 → fin.get k.versions n ≡ Some v
      → (m : ℕ) × (m ≤ 1) × (fin.get k.versions m ≢ None)

abbrev pub OldestIsSmallest : Type 0
OldestIsSmallest = (k : Key) → IsOldest k (metadata_of k).oldest
