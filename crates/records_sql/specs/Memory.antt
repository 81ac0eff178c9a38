-- What is remembered of rows, and when it is true (this project's definition).
use Rattle.std.specs.Prelude.{◌≡◌, ◌≢◌, ◌+◌, ◌≤◌, ℕ, Bool, true, false, ⊤, is_some, List, [], length, Option, Some}
use Rattle.std.specs.Prelude.{None, All, Contains, String, string_bytes}
use Rattle.std.specs.declared.alloc.Global.{Global}
use Rattle.lru.specs.LruCache.{LruCache}
use Rattle.records.specs.Words.{get, RowKey, Rows, Text}
use Rattle.records.specs.declared.kind.Kind.{Kind}
use Rattle.records.specs.declared.kind.Kind.TheVariants as kind
use Rattle.records.specs.declared.row.Row.{Row}

-- Whether what was found at a kind is remembered. Of most kinds it never is: not of those whose rows hold what a client
-- keeps secret, and of the clock and of tokens only a row that is there.
abbrev pub is_kept : Kind → Option Row → Bool
is_kept kind.Clock row = is_some row
is_kept kind.Used row = false
is_kept kind.Token row = is_some row
is_kept kind.Accessor row = false
is_kept kind.Cubby row = false
is_kept kind.Lease row = false
is_kept kind.Credential row = false
is_kept kind.KvKey row = true
is_kept kind.KvVersion row = false
is_kept kind.Waiting row = false
is_kept kind.Mount row = true
is_kept kind.Policy row = true
is_kept kind.Role row = false

-- the bytes of a row that count
abbrev pub row_size : Option Row → ℕ
row_size None = 0
row_size (Some row) = length row.owner + length row.body

-- how many bytes a key and its row have at most, and how many of these there are (this project's limits)
abbrev pub greatest_size : ℕ
greatest_size = 4096

abbrev pub greatest_count : ℕ
greatest_count = 1024

-- a key, the kind of its row, and the row, or that there is none
abbrev pub Entry : Type 0
Entry = String Global × (Kind × Option Row)

-- a cache of them
abbrev pub Cache : Type 0
Cache = LruCache (String Global) (Kind × Option Row)

-- rows by kind and key, or that there is none, and the moment before which no row is due
pub record Memory : Type 0 where
  pub entries : List Entry
  pub calm_until : ℕ

-- nothing
abbrev pub nothing : Memory
nothing = record { entries = []; calm_until = 0 }

-- the entries of a cache, if there is one
abbrev pub entries_of : Option Cache → List Entry
entries_of None = []
entries_of (Some cache) = cache.entries

-- it has a key and a row of that size at most
abbrev pub IsSmall : Entry → Type 0
IsSmall e = length (string_bytes e.0) + row_size e.1.1 ≤ greatest_size

-- a cache for so many entries, each of which is small
abbrev pub AreBounded : Option Cache → Type 0
AreBounded None = ⊤
AreBounded (Some cache) = (cache.cap ≡ greatest_count) × All IsSmall cache.entries

-- each of the new entries is one of the old, and has another key
abbrev pub AreOthers : Text → List Entry → List Entry → Type 0
AreOthers key old new = All (λ e. Contains old e × (string_bytes e.0 ≢ key)) new

-- the entry says what the row is
abbrev pub IsFound : Rows → Entry → Type 0
IsFound rows e = get rows (e.1.0, string_bytes e.0) ≡ e.1.1

-- and so does each
abbrev pub AreFound : List Entry → Rows → Type 0
AreFound list rows = All (IsFound rows) list

-- it is due at the moment or later, if at all
abbrev pub IsDueFrom : ℕ → Row → Type 0
IsDueFrom moment row = (d : ℕ) → row.due ≡ Some d → moment ≤ d

-- and so is each row
abbrev pub IsCalmUntil : ℕ → Rows → Type 0
IsCalmUntil moment rows = (key : RowKey) (row : Row) → get rows key ≡ Some row → IsDueFrom moment row

-- what is remembered is true of the rows
pub record Agrees (memory : Memory) (rows : Rows) : Type 0 where
  pub entries : AreFound memory.entries rows
  pub calm : IsCalmUntil memory.calm_until rows
