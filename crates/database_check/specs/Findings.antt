-- What a check of a database finds (this project's definition).
use Rattle.std.specs.Prelude.{◌≡◌, ◌<◌, ◌⊎◌, ℕ, [], List, All, IsTrue, Some, length, slice_index_or, ⊤}
use Rattle.sqlite.specs.Recovery.{Image}
use Rattle.records.specs.Words.{Text, table_of, Rows, rows_under, AreUpgraded}
use Rattle.records.specs.declared.kind.Kind.{Kind}
use Rattle.records.specs.declared.kind.Kind.TheVariants as kind
use Rattle.records_sql.specs.Words.{IsKeptIn}
use Rattle.records.specs.declared.row.Row.{Row}
use Rattle.soundness.specs.Words.{Breaks, AreOfABroker, IsListed, WasPassed}
use Rattle.soundness.specs.declared.trouble.Trouble.{Trouble}
use Rattle.database_check.specs.Naming.{TellsOf}
use Rattle.database_check.specs.declared.all.AllFindings.{AllFindings}
use Rattle.database_check.specs.declared.all.AllFindings.TheVariants.{AllSound, InTrouble}
use Rattle.database_check.specs.declared.all.Defects.{Defects}
use Rattle.database_check.specs.declared.checking.Finding.{Finding}
use Rattle.database_check.specs.declared.checking.Finding.TheVariants.{Sound, Unsound}
use Rattle.database_check.specs.declared.counts.Counts.{Counts}
use Rattle.database_check.specs.declared.defect.Defect.{Defect}

-- if the rows were found to be those of a sound broker, P of their counts
abbrev pub IfSound : Finding → (Counts → Type 0) → Type 0
IfSound (Sound counts) P = P counts
IfSound (Unsound defect) P = ⊤

-- if they were found not to be, P of the row that was told of
abbrev pub IfUnsound : Finding → (Defect → Type 0) → Type 0
IfUnsound (Sound counts) P = ⊤
IfUnsound (Unsound defect) P = P defect

-- how many rows of a kind there are
abbrev pub count_of : Rows → Kind → ℕ
count_of rows k = length (rows_under rows k [])

-- how many of each there are
abbrev pub counts_of : Rows → Counts
counts_of rows =
    record {
      tokens = count_of rows kind.Token;
      objects = count_of rows kind.Cubby;
      secrets = count_of rows kind.KvKey;
      versions = count_of rows kind.KvVersion;
      leases = count_of rows kind.Lease;
      responses = count_of rows kind.Waiting;
      mounts = count_of rows kind.Mount;
      policies = count_of rows kind.Policy;
      roles = count_of rows kind.Role;
    }

-- an opening makes rows of them that are those of a sound broker
abbrev pub OpenAsABroker : Rows → Type 0
OpenAsABroker old = (rows : Rows) × AreUpgraded (table_of old) (table_of rows) × AreOfABroker rows

-- and so many there are then
abbrev pub OpenAsCounted : Rows → Counts → Type 0
OpenAsCounted old counts =
    (rows : Rows) × AreUpgraded (table_of old) (table_of rows) × AreOfABroker rows × (counts ≡ counts_of rows)

-- none makes such rows of them: in those that it makes a row breaks a rule, and the defect tells of that row
pub record OpenAsNone (old : Rows) (defect : Defect) : Type 0 where
  pub none : OpenAsABroker old → ⊥
  pub rows : Rows
  pub upgraded : AreUpgraded (table_of old) (table_of rows)
  pub trouble : Trouble
  pub breaks : Breaks (table_of rows) trouble
  pub tells : TellsOf rows trouble defect

-- if the rows were found to be those of a sound broker, P of their counts
abbrev pub IfAllSound : AllFindings → (Counts → Type 0) → Type 0
IfAllSound (AllSound counts) P = P counts
IfAllSound (InTrouble defects) P = ⊤

-- if they were found not to be, P of the rows that were told of
abbrev pub IfInTrouble : AllFindings → (Defects → Type 0) → Type 0
IfInTrouble (AllSound counts) P = ⊤
IfInTrouble (InTrouble defects) P = P defects

-- the defects tell of the rows in trouble, in their order
pub record TellOf (rows : Rows) (ts : List Trouble) (ds : List Defect) : Type 0 where
  pub as_many : length ds ≡ length ts
  pub each : (i : ℕ) (t : Trouble) (d : Defect) → i < length ts
      → TellsOf rows (slice_index_or ts i t) (slice_index_or ds i d)

-- No opening makes rows of a sound broker of them. In those that it makes, each of these rows breaks a rule, and the
-- defects tell of them; and if these are all, each other row keeps the rules.
pub record OpenInTrouble (old : Rows) (defects : Defects) : Type 0 where
  pub none : OpenAsABroker old → ⊥
  pub rows : Rows
  pub upgraded : AreUpgraded (table_of old) (table_of rows)
  pub troubles : List Trouble
  pub break : All (λ t. Breaks (table_of rows) t) troubles
  pub tell : TellOf rows troubles defects.list.items
  pub whole : IsTrue defects.are_all → (k : Kind) (q : Text) (row : Row) → table_of rows k q ≡ Some row
      → IsListed troubles (k, q) ⊎ WasPassed (table_of rows) ((k, q), row)

-- two files, a database and its log, keep rows of which an opening makes those of a sound broker, with these counts
abbrev pub KeepABroker : Image → Counts → Type 0
KeepABroker image counts = (rows : Rows) × IsKeptIn image rows × OpenAsCounted rows counts

-- or rows of which it does not, and the defect tells why
abbrev pub KeepNoBroker : Image → Defect → Type 0
KeepNoBroker image defect = (rows : Rows) × IsKeptIn image rows × OpenAsNone rows defect
