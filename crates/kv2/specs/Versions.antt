-- One versioned secret (Vault's documentation, "KV secrets engine - version 2").
use Rattle.std.specs.Prelude.{◌+◌, ◌-◌, ◌==◌, if◌then◌else◌, ℕ, nat_lt, List, map, Bool, true, false, Option, Some, Ok}
use Rattle.records.specs.Words.{None, is_none, unwrap_or, option_and_then, Result, Err, ⊤, list_any, option_map_or}
use Rattle.records.specs.Words.{nat_cmp, FinMap, Text, greatest_version, empty, ◌>>=◌, unless, Key, Version, Mount}
use Rattle.records.specs.Words.{Refusal}
use Rattle.std.specs.FinMap as fin
use Rattle.broker_types.specs.declared.refusal.Refusal.TheVariants as refusal
use Rattle.broker_types.specs.declared.refusal.Reason.TheVariants as reason
use Rattle.broker_types.specs.declared.refusal.Field.TheVariants as field

-- versions by number
abbrev pub Versions : Type 0
Versions = FinMap nat_cmp Version

-- the version of a key that may be there
abbrev pub version_of : Option Key → ℕ → Option Version
version_of o n = option_and_then (λ (k : Key). fin.get k.versions n) o

-- ---- reading

-- the number that is asked for; 0 is the current one
abbrev pub asked_number : ℕ → ℕ → ℕ
asked_number current n = if n == 0 then current else n

-- a version that is read: its number, what is kept of it, and the custom metadata of its key, by name
pub record Found : Type 0 where
  pub number : ℕ
  pub version : Version
  pub custom_metadata : List (Text × Text)

-- a version of a key with this custom metadata, with its number
abbrev pub numbered : List (Text × Text) → ℕ → Version → Found
numbered custom_metadata n v = record { number = n; version = v; custom_metadata = custom_metadata }

-- ---- writing

-- what a write answers: the number that it gave, and the custom metadata of its key, by name
pub record WriteAnswer : Type 0 where
  pub number : ℕ
  pub custom_metadata : List (Text × Text)

-- the first number, or the second if the first is 0
abbrev pub or_if_zero : ℕ → ℕ → ℕ
or_if_zero n m = if n == 0 then m else n

-- how many versions are kept: as the key says, else as its mount says, else ten
abbrev pub versions_kept : Mount → Key → ℕ
versions_kept m k = or_if_zero k.max_versions (or_if_zero m.max_versions 10)

-- check-and-set: the version that a write says it follows is the current one, which is 0 for a key without a version
abbrev pub check_and_set : Bool → ℕ → Option ℕ → Result ⊤ Refusal
check_and_set true current None = Err (refusal.BadRequest reason.CheckAndSetRequired)
check_and_set false current None = Ok tt
check_and_set required current (Some n) = unless (n == current) (refusal.BadRequest reason.CheckAndSetFailed)

-- check-and-set, and then whether there is a number for one more version
abbrev pub checked : Bool → ℕ → Option ℕ → Result ⊤ Refusal
checked required current cas = do
  passed ← check_and_set required current cas
  unless (nat_lt current greatest_version) (refusal.BadRequest (reason.InvalidField field.Version))

-- a key without versions and without settings of its own
abbrev pub new_key : ℕ → Key
new_key now = record {
  created = now;
  updated = now;
  current = 0;
  versions = fin.empty;
  cas_required = false;
  max_versions = 0;
  custom_metadata = empty;
}

-- the key, or a new one
abbrev pub key_or_new : ℕ → Option Key → Key
key_or_new now o = unwrap_or o (new_key now)

-- a version that is just written
abbrev pub new_version : ℕ → Text → Version
new_version now object = record { created = now; deleted = None; secret = Some object }

-- ---- settings of a key

-- settings of a key that are given
pub record Settings : Type 0 where
  pub cas_required : Option Bool
  pub max_versions : Option ℕ
  -- names and values, by name
  pub custom_metadata : Option (List (Text × Text))

-- the key with the settings that are given, at a moment; the others stay, and so do its versions
abbrev pub described : ℕ → Settings → Key → Key
described now given k = record k {
  updated = now;
  cas_required = unwrap_or given.cas_required k.cas_required;
  max_versions = unwrap_or given.max_versions k.max_versions;
  custom_metadata = option_map_or fin.from_entries given.custom_metadata k.custom_metadata;
}

-- ---- one more version

-- the versions above the oldest that a limit leaves under version v
abbrev pub kept_under : ℕ → ℕ → Versions → Versions
kept_under v limit versions = fin.retain_keys versions (λ n. nat_lt (v - limit) n)

-- one more version; those that the limit does not leave are gone for good
abbrev pub with_version : ℕ → ℕ → Text → Key → Key
with_version now limit object k =
    let v = k.current + 1 in
    record k {
      updated = now;
      current = v;
      versions = kept_under v limit (fin.insert k.versions v (new_version now object));
    }

-- ---- deletion

-- whether the number is among the numbers
abbrev pub is_among : List ℕ → ℕ → Bool
is_among ns n = list_any (λ m. m == n) ns

-- the entries, with the versions changed whose numbers pass
abbrev pub changed_entries : (Version → Version) → (ℕ → Bool) → List (ℕ × Version) → List (ℕ × Version)
changed_entries f p es = map (λ e. (e.0, if p e.0 then f e.1 else e.1)) es

-- the versions changed whose numbers pass, and the others as they were
unfoldable pub change_versions : (Version → Version) → (ℕ → Bool) → Versions → Versions
change_versions f p versions = fin.from_sorted (changed_entries f p (fin.entries versions))

-- the key with the versions of these numbers changed; numbers without a version are passed over
abbrev pub with_changed : (Version → Version) → List ℕ → Key → Key
with_changed f ns k = record k { versions = change_versions f (is_among ns) k.versions }

-- deleted at a moment; what was deleted before keeps its time, and what is destroyed gets one
abbrev pub soft_deleted : ℕ → Version → Version
soft_deleted now v = if is_none v.deleted then record v { deleted = Some now } else v

-- no longer deleted, unless it is destroyed
abbrev pub restored : Version → Version
restored v = if is_none v.secret then v else record v { deleted = None }

-- without its secret, for good; the time of its deletion stays
abbrev pub destroyed : Version → Version
destroyed v = record v { secret = None }
