-- Versioned secrets as rows: a key has one at its name, and each version one at the name, a line feed and twenty digits
-- (this project's row format).
use Rattle.std.specs.Prelude.{◌≡◌, ◌<◌, ◌+◌, ◌-◌, ◌^◌, ◌&&◌, ◌||◌, ◌==◌, ◌++◌, ◌∷◌, ◌≢◌, if◌then◌else◌, ◌≤◌, ℕ, List}
use Rattle.records.specs.Words.{[], nat_lt, Bool, true, false, Option, Some, None, option_map, unwrap_or, Result, Ok}
use Rattle.records.specs.Words.{map, All, list_any, is_le, Text, text_cmp, same, greatest_version, ◌>>=◌, some_or}
use Rattle.records.specs.Words.{Version, Mount, Refusal, RowKey, kind_number, children, keys_under, KeyEntry, named}
use Rattle.records.specs.Words.{IsKeyInRange, IsVersionInRange, IsMountInRange, IsRowOf, key_entry_row, version_row}
use Rattle.records.specs.Words.{mount_row, version_key, line_feed, Rows, rows_under, Table, table_of, with_row}
use Rattle.records.specs.Words.{without_row, without_under, has_prefix, is_at}
use Rattle.broker_types.specs.declared.refusal.Refusal.TheVariants as refusal
use Rattle.records.specs.declared.kind.Kind.{Kind}
use Rattle.records.specs.declared.kind.Kind.TheVariants as kind
use Rattle.records.specs.declared.row.Row.{Row}
use Rattle.kv2.specs.Metadata.{Metadata, metadata_with}
use Rattle.kv2.specs.Versions.{Found, Settings, asked_number, numbered, or_if_zero, checked, new_version, is_among}

-- ---- what is at a key

-- what the row of a name says of the key without its versions
abbrev pub HasKey : Table → Text → Option KeyEntry → Type 0
HasKey rows name o = IsRowOf IsKeyInRange key_entry_row (rows kind.KvKey name) o

-- what the row of a version says
abbrev pub HasVersion : Table → Text → ℕ → Option Version → Type 0
HasVersion rows name n o = IsRowOf IsVersionInRange version_row (rows kind.KvVersion (version_key name n)) o

-- what the row of a mount says
abbrev pub HasMount : Table → Text → Option Mount → Type 0
HasMount rows name o = IsRowOf IsMountInRange mount_row (rows kind.Mount name) o

-- ---- rows that are not damaged

-- the row of a mount is that of a mount, or there is none
abbrev pub IsReadableMount : Table → Text → Type 0
IsReadableMount rows name = (m : Option Mount) × HasMount rows name m

-- the row of a name is that of a key, or there is none
abbrev pub IsReadableKey : Table → Text → Type 0
IsReadableKey rows name = (k : Option KeyEntry) × HasKey rows name k

-- the row of a version is that of a version, or there is none
abbrev pub IsReadableVersion : Table → Text → ℕ → Type 0
IsReadableVersion rows name n = (v : Option Version) × HasVersion rows name n v

-- the rows of the versions of these numbers are not damaged
abbrev pub AreReadableVersions : Table → Text → List ℕ → Type 0
AreReadableVersions rows name ns = (n : ℕ) → n < 2 ^ 64 → is_among ns n ≡ true → IsReadableVersion rows name n

-- the rows that a write reads are not damaged: its mount's, and its key's if the mount is there
abbrev pub AreReadableToWrite : Table → Text → Text → Type 0
AreReadableToWrite rows mount name =
    (m : Option Mount) × HasMount rows mount m × (m ≢ None → IsReadableKey rows name)

-- how the keys of a name's versions begin
abbrev pub versions_prefix : Text → Text
versions_prefix name = name ++ line_feed ∷ []

-- no row has changed but those of the name: its key's, and those whose keys begin as its versions' do
abbrev pub KeepsOtherNames : Text → Table → Table → Type 0
KeepsOtherNames name old new =
    (k : Kind) (q : Text) → is_at kind.KvKey name k q ≡ false
    → has_prefix kind.KvVersion (versions_prefix name) k q ≡ false → new k q ≡ old k q

-- ---- settings

-- the table with the row of a mount, if there is one
abbrev pub rows_with_settings : Table → Text → Option Mount → Table
rows_with_settings rows name None = rows
rows_with_settings rows name (Some m) = with_row rows kind.Mount name (mount_row m)

-- no row has changed but that of the mount
abbrev pub KeepsOtherMounts : Text → Table → Table → Type 0
KeepsOtherMounts name old new = (k : Kind) (q : Text) → is_at kind.Mount name k q ≡ false → new k q ≡ old k q

-- ---- reading

-- what is read of a key that is there or not
abbrev pub IsReadOf : Table → Text → ℕ → Option KeyEntry → Option Found → Type 0
IsReadOf rows name n None o = o ≡ None
IsReadOf rows name n (Some k) o =
    let asked = asked_number k.current n in
    (v : Option Version) × HasVersion rows name asked v × (o ≡ option_map (numbered k.custom_metadata asked) v)

-- what is read at a name: the version that is asked for with its number, if its rows are there
abbrev pub IsRead : Table → Text → ℕ → Option Found → Type 0
IsRead rows name n o = (k : Option KeyEntry) × HasKey rows name k × IsReadOf rows name n k o

-- ---- versions listed

-- a version that a row can hold, with a number that it can have
pub record IsNumbered (v : ℕ × Version) : Type 0 where
  pub number : v.0 ≤ greatest_version
  pub in_range : IsVersionInRange v.1

-- the key and the row are those of a version of the name
pub record IsEntryOf (name : Text) (e : RowKey × Row) (v : ℕ × Version) : Type 0 where
  pub key : e.0.1 ≡ version_key name v.0
  pub row : e.1 ≡ version_row v.1

-- the key and the row of a version of a name
abbrev pub version_entry : Text → ℕ × Version → Text × Row
version_entry name v = (version_key name v.0, version_row v.1)

-- the entries are those of these versions of the name, in their order
pub record AreEntriesOf (name : Text) (es : List (RowKey × Row)) (vs : List (ℕ × Version)) : Type 0 where
  pub each : All IsNumbered vs
  pub entries : named es ≡ map (version_entry name) vs

-- these are the versions of the name, in the order of their keys: no row begins as theirs do but these
abbrev pub AreVersions : Rows → Text → List (ℕ × Version) → Type 0
AreVersions rows name vs = AreEntriesOf name (rows_under rows kind.KvVersion (versions_prefix name)) vs

-- the metadata of a key that is there or not
abbrev pub IsMetadataOf : Rows → Text → Option KeyEntry → Option Metadata → Type 0
IsMetadataOf rows name None o = o ≡ None
IsMetadataOf rows name (Some k) o =
    (vs : List (ℕ × Version)) × AreVersions rows name vs × (o ≡ Some (metadata_with k vs))

-- the metadata at a name, if its rows are there
abbrev pub IsMetadata : Rows → Text → Option Metadata → Type 0
IsMetadata rows name o = (k : Option KeyEntry) × HasKey (table_of rows) name k × IsMetadataOf rows name k o

-- the children of what begins with the prefix, among the names of keys
abbrev pub children_in : Rows → Text → List Text
children_in rows prefix = children prefix (keys_under rows kind.KvKey prefix)

-- ---- writing

-- whether the key is of this kind, begins with the prefix and is not above the last
abbrev pub is_upto : Kind → Text → Text → Kind → Text → Bool
is_upto kind prefix last k q = has_prefix kind prefix k q && is_le (text_cmp q last)

-- the table without the rows of a kind whose keys begin with the prefix and are not above the last
abbrev pub without_upto : Table → Kind → Text → Text → Table
without_upto rows kind prefix last = λ k q. if is_upto kind prefix last k q then None else rows k q

-- the table without the versions of a name that the limit does not leave under version v
abbrev pub pruned : Table → Text → ℕ → ℕ → Table
pruned rows name v limit =
    if nat_lt limit v then without_upto rows kind.KvVersion (versions_prefix name) (version_key name (v - limit))
    else rows

-- a key without versions and settings
abbrev pub new_entry : ℕ → KeyEntry
new_entry now = record {
  current = 0;
  created = now;
  updated = now;
  cas_required = false;
  max_versions = 0;
  custom_metadata = [];
}

-- the key after one more version
abbrev pub next_entry : ℕ → KeyEntry → KeyEntry
next_entry now k = record k { current = k.current + 1; updated = now }

-- the table with the current version of a name, made when its key was updated, and without those that the limit does
-- not leave
abbrev pub with_current : Table → Text → KeyEntry → ℕ → Text → Table
with_current rows name k limit object =
    pruned (with_row (with_row rows kind.KvVersion (version_key name k.current)
    (version_row (new_version k.updated object))) kind.KvKey name (key_entry_row k))
    name k.current limit

-- the table with one more version of a name
abbrev pub rows_with_version : Table → Text → KeyEntry → ℕ → ℕ → Text → Table
rows_with_version rows name k limit now object = with_current rows name (next_entry now k) limit object

-- the number that a write gave, the custom metadata of the key, by name, and the next rows
pub record WrittenRows : Type 0 where
  pub number : ℕ
  pub custom_metadata : List (Text × Text)
  pub rows : Table

-- one more version of a key
abbrev pub written : Table → Mount → Text → ℕ → Text → KeyEntry → WrittenRows
written rows m name now object k = record {
  number = k.current + 1;
  custom_metadata = k.custom_metadata;
  rows = rows_with_version rows name k (or_if_zero k.max_versions (or_if_zero m.max_versions 10)) now object;
}

-- a write over a key that is there or new
abbrev pub write_over : Table → Mount → Text → ℕ → Option ℕ → Text → KeyEntry → Result WrittenRows Refusal
write_over rows m name now cas object k = do
  passed ← checked (k.cas_required || m.cas_required) k.current cas
  Ok (written rows m name now object k)

-- the object as the next version of a name, for what the rows have of the mount and of the key
abbrev pub write : Table → Option Mount → Option KeyEntry → Text → ℕ → Option ℕ → Text → Result WrittenRows Refusal
write rows mount key name now cas object = do
  m ← some_or refusal.NotFound mount
  write_over rows m name now cas object (unwrap_or key (new_entry now))

-- ---- settings of a key

-- the key with the settings that are given, at a moment; the others stay
abbrev pub described_entry : ℕ → Settings → KeyEntry → KeyEntry
described_entry now given k = record k {
  updated = now;
  cas_required = unwrap_or given.cas_required k.cas_required;
  max_versions = unwrap_or given.max_versions k.max_versions;
  custom_metadata = unwrap_or given.custom_metadata k.custom_metadata;
}

-- the table with the settings that are given for a name, for what the rows have of its key
abbrev pub with_description : Table → Text → ℕ → Settings → Option KeyEntry → Table
with_description rows name now given k =
    with_row rows kind.KvKey name (key_entry_row (described_entry now given (unwrap_or k (new_entry now))))

-- ---- deletion

-- whether it is the key of one of these versions of the name
abbrev pub is_key_of : List ℕ → Text → Text → Bool
is_key_of ns name q = list_any (λ n. same q (version_key name n)) ns

-- The versions of these numbers of the name are changed, where they are there, and no other row is. None of their rows
-- is damaged.
pub record AreChanged (f : Version → Version) (ns : List ℕ) (name : Text) (old new : Table) : Type 0 where
  pub numbers : (n : ℕ) → is_among ns n ≡ true → n < 2 ^ 64
  pub readable : (n : ℕ) → is_key_of ns name (version_key name n) ≡ true → IsReadableVersion old name n
  pub versions : (n : ℕ) (v : Option Version) → is_key_of ns name (version_key name n) ≡ true
      → HasVersion old name n v → HasVersion new name n (option_map f v)
  pub others : (k : Kind) (q : Text)
      → ((kind_number k == kind_number kind.KvVersion) && is_key_of ns name q) ≡ false → new k q ≡ old k q

-- the current version, if the key is there
abbrev pub current_of : Option KeyEntry → List ℕ
current_of None = []
current_of (Some k) = k.current ∷ []

-- the table without a key and its versions
abbrev pub without_key : Table → Text → Table
without_key rows name = without_under (without_row rows kind.KvKey name) kind.KvVersion (versions_prefix name)

-- the table without the keys and the versions whose names begin with the prefix
abbrev pub without_names : Table → Text → Table
without_names rows prefix = without_under (without_under rows kind.KvKey prefix) kind.KvVersion prefix
