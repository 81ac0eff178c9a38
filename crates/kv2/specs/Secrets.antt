-- Versioned secrets of mounts: what each operation does to the maps (Vault's documentation, "KV secrets engine -
-- version 2 (API)").
use Rattle.std.specs.Prelude.{◌+◌, ◌||◌, ◌∷◌, ◌++◌, ℕ, nat_eq, List, [], Bool, not, Option, unwrap_or, option_map, Ok}
use Rattle.records.specs.Words.{option_and_then, Result, starts_with, Text, get, put, without, keep, keys, entries}
use Rattle.records.specs.Words.{change, ◌>>=◌, some_or, Key, Version, Broker, Mount, Refusal, folder, children, slash}
use Rattle.std.specs.FinMap as fin
use Rattle.broker_types.specs.declared.refusal.Refusal.TheVariants as refusal
use Rattle.kv2.specs.Metadata.{Metadata, metadata_of}
use Rattle.kv2.specs.Versions.{Found, Settings, asked_number, numbered, versions_kept, checked, key_or_new, described}
use Rattle.kv2.specs.Versions.{with_version, with_changed, soft_deleted, restored, destroyed}

-- the name of a secret among those of all mounts
abbrev pub secret_name : Text → Text → Text
secret_name mount path = mount ++ slash ∷ path

-- the key at a path of a mount
abbrev pub key_at : Broker → Text → Text → Option Key
key_at b mount path = get b.secrets (secret_name mount path)

-- ---- settings of a mount

-- the settings of a mount
abbrev pub config : Broker → Text → Option Mount
config b mount = get b.mounts mount

-- a mount with the settings that are given; the others stay
abbrev pub with_settings : Option Bool → Option ℕ → Mount → Mount
with_settings cas_required max_versions m = record m {
  cas_required = unwrap_or cas_required m.cas_required;
  max_versions = unwrap_or max_versions m.max_versions;
}

-- the broker with other settings of a mount
abbrev pub set_config : Broker → Text → Option Bool → Option ℕ → Broker
set_config b mount cas_required max_versions =
    record b { mounts = change b.mounts mount (with_settings cas_required max_versions) }

-- ---- reading

-- a version that is kept, with its number, also if it is deleted or destroyed; 0 asks for the current one
abbrev pub read : Broker → Text → Text → ℕ → Option Found
read b mount path n =
    option_and_then (λ (k : Key). option_map (numbered (entries k.custom_metadata) (asked_number k.current n))
    (fin.get k.versions (asked_number k.current n))) (key_at b mount path)

-- what is told of a secret besides its texts
abbrev pub metadata : Broker → Text → Text → Option Metadata
metadata b mount path = option_map metadata_of (key_at b mount path)

-- the children of a folder of a mount; the empty path is for the whole mount
abbrev pub list : Broker → Text → Text → List Text
list b mount path = children (secret_name mount (folder path)) (keys b.secrets)

-- ---- writing

-- the number that a write gave, the custom metadata of the key, by name, and the next broker
pub record Written : Type 0 where
  pub number : ℕ
  pub custom_metadata : List (Text × Text)
  pub next : Broker

-- one more version of a key
abbrev pub written : Broker → Mount → Text → Text → Key → Written
written b m name object k = record {
  number = k.current + 1;
  custom_metadata = entries k.custom_metadata;
  next = record b { secrets = put b.secrets name (with_version b.clock (versions_kept m k) object k) };
}

-- a write over a key that is there or new
abbrev pub write_over : Broker → Mount → Text → Option ℕ → Text → Key → Result Written Refusal
write_over b m name cas object k = do
  passed ← checked (k.cas_required || m.cas_required) k.current cas
  Ok (written b m name object k)

-- the object as the next version at a path of a mount
abbrev pub write : Broker → Text → Text → Option ℕ → Text → Result Written Refusal
write b mount path cas object = do
  m ← some_or refusal.NotFound (get b.mounts mount)
  write_over b m (secret_name mount path) cas object (key_or_new b.clock (key_at b mount path))

-- ---- settings of a secret

-- the settings that are given, for the secret at a path of a mount; one that is not there is made, without a version
abbrev pub set_metadata : Broker → Text → Text → Settings → Broker
set_metadata b mount path given = record b {
  secrets = put b.secrets (secret_name mount path)
      (described b.clock given (key_or_new b.clock (key_at b mount path)));
}

-- ---- deletion

-- the broker with a secret changed, if it is there
abbrev pub with_key : Broker → Text → Text → (Key → Key) → Broker
with_key b mount path f = record b { secrets = change b.secrets (secret_name mount path) f }

-- the current version deleted
abbrev pub delete : Broker → Text → Text → Broker
delete b mount path = with_key b mount path (λ k. with_changed (soft_deleted b.clock) (k.current ∷ []) k)

-- the broker with the versions of these numbers changed, where they are there
abbrev pub with_versions : (Version → Version) → Broker → Text → Text → List ℕ → Broker
with_versions f b mount path ns = with_key b mount path (with_changed f ns)

-- the versions of these numbers deleted
abbrev pub delete_versions : Broker → Text → Text → List ℕ → Broker
delete_versions b mount path ns = with_versions (soft_deleted b.clock) b mount path ns

-- the versions of these numbers restored
abbrev pub undelete : Broker → Text → Text → List ℕ → Broker
undelete b mount path ns = with_versions restored b mount path ns

-- the versions of these numbers destroyed
abbrev pub destroy : Broker → Text → Text → List ℕ → Broker
destroy b mount path ns = with_versions destroyed b mount path ns

-- the broker without a secret and all its versions
abbrev pub remove_key : Broker → Text → Text → Broker
remove_key b mount path = record b { secrets = without b.secrets (secret_name mount path) }

-- the broker without the secrets of a mount
abbrev pub drop_mount : Broker → Text → Broker
drop_mount b mount = record b { secrets = keep (λ q. not (starts_with nat_eq q (secret_name mount []))) b.secrets }
