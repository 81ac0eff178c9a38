-- What the hub's table of connections has under each number (this project's definition). An entry is one connection, or
-- closed ones whose numbers follow one another, and is kept under the first of its numbers.
use Rattle.std.specs.Prelude.{◌≡◌, ◌<◌, ◌≤◌, ◌+◌, ℕ, zero, suc, cond, nat_eq, nat_le, Option, Some, None, MatchOption}
use Rattle.broker_model.specs.Words.{nat_cmp, BTreeMap}
use Rattle.std.specs.BTreeMap.{get}
use Rattle.hub.specs.declared.connection.Connection.{Connection}
use Rattle.hub.specs.declared.connection.Connection.TheVariants.{Closed}
use Rattle.hub.specs.declared.entry.Entry.{Entry}
use Rattle.hub.specs.declared.entry.Entry.TheVariants.{One, ClosedRun}

-- ---- one entry

-- the last number of the entry that is kept under `first`
abbrev pub last_in : ℕ → Entry → ℕ
last_in first (One c) = first
last_in first (ClosedRun more) = first + more

-- what the entry that is kept under `first` has under a number from there on
abbrev pub connection_in : ℕ → Entry → ℕ → Option Connection
connection_in first (One c) conn = cond (nat_eq conn first) (Some c) None
connection_in first (ClosedRun more) conn = cond (nat_le conn (first + more)) (Some Closed) None

-- the entry that is kept under `first` has closed connections alone, and this is the number of the last
pub record IsClosedRun (first : ℕ) (entry : Entry) (last : ℕ) : Type 0 where
  pub reaches : first ≤ last
  pub closed : (k : ℕ) → first ≤ k → connection_in first entry k ≡ cond (nat_le k last) (Some Closed) None

-- the number after the last of the entry; none if that is past the greatest number
abbrev pub IsNextIn : ℕ → Entry → Option ℕ → Type 0
IsNextIn first entry next =
    MatchOption next (18446744073709551615 ≤ last_in first entry) (λ n. n ≡ last_in first entry + 1)

-- ---- the table

-- the entry that is kept under `first` is the last up to the number
pub record IsLastUpTo (entries : ℕ → Option Entry) (conn first : ℕ) (entry : Entry) : Type 0 where
  pub here : entries first ≡ Some entry
  pub within : first ≤ conn
  pub none : (k : ℕ) → first < k → k ≤ conn → entries k ≡ None

-- what the entry has, or else what is below it
abbrev pub entry_or : Option Entry → ℕ → ℕ → Option Connection → Option Connection
entry_or None first conn below = below
entry_or (Some entry) first conn below = connection_in first entry conn

-- what the last entry up to n has under the number
unfoldable pub search_down : (ℕ → Option Entry) → ℕ → ℕ → Option Connection
search_down entries zero conn = entry_or (entries 0) 0 conn None
search_down entries (suc n) conn = entry_or (entries (suc n)) (suc n) conn (search_down entries n conn)

-- what entries have under a number: what the last entry up to it has
abbrev pub connection_at : (ℕ → Option Entry) → ℕ → Option Connection
connection_at entries conn = search_down entries conn conn

-- the connection that the table has under a number
abbrev pub connections_in : BTreeMap ℕ Entry → ℕ → Option Connection
connections_in table conn = connection_at (get nat_cmp table) conn
