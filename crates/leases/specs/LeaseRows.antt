-- Leases as rows: each has one at its id, whose owner is its token, and one at its credential, whose owner is the id
-- (this project's row format).
use Rattle.std.specs.Prelude.{◌≡◌, ◌≢◌, ℕ, Option, Some, Result, Ok}
use Rattle.records.specs.Words.{Text, Lease, Broker, OnePlaceEach, lease_of, IsSoundLease, IsMoment, IsEnd, ◌>>=◌}
use Rattle.records.specs.Words.{some_or, Refusal, of_leases, Tells, IsLeaseInRange, IsSomeIn, IsRowOf, lease_row}
use Rattle.records.specs.Words.{credential_row, Table, with_row}
use Rattle.broker_types.specs.declared.refusal.Refusal.TheVariants as refusal
use Rattle.broker_types.specs.declared.refusal.Reason.TheVariants as reason
use Rattle.records.specs.declared.kind.Kind.{Kind}
use Rattle.records.specs.declared.kind.Kind.TheVariants as kind
use Rattle.records.specs.declared.row.Row.{Row}
use Rattle.leases.specs.Leases as leases

-- ---- which rows are those of a broker

-- each lease of each token is sound
abbrev pub SoundLeases : Broker → Type 0
SoundLeases b = (t lease_id : Text) (l : Lease) → lease_of b t lease_id ≡ Some l → IsSoundLease lease_id l

-- The rows of leases and credentials are those of the broker b, whose leases are sound, and which has each identifier
-- in one place. This holds within a request too, where a caller may have spent its last use.
pub record RepresentsLeases (rows : Table) (b : Broker) : Type 0 where
  pub sound : SoundLeases b
  pub one_place : OnePlaceEach b
  pub tells : Tells of_leases rows b

-- ---- what is at a key

-- the owner of a lease's row, and what the row says
abbrev pub Held : Type 0
Held = Text × Lease

-- the row of what is held
abbrev pub held_row : Held → Row
held_row h = lease_row h.0 h.1

-- the row of an id is that of a lease that its owner has, or there is none
abbrev pub IsLeaseAt : Table → Text → Option Held → Type 0
IsLeaseAt rows lease_id o = IsRowOf (λ h. IsLeaseInRange h.1) held_row (rows kind.Lease lease_id) o

-- the row of an id is that of a lease, or there is none
abbrev pub IsReadableLease : Table → Text → Type 0
IsReadableLease rows lease_id = (o : Option Held) × IsLeaseAt rows lease_id o

-- the row is that of a lease
abbrev pub IsLeaseRow : Row → Type 0
IsLeaseRow row = (l : Lease) × IsLeaseInRange l × (row ≡ lease_row row.owner l)

-- the row of a credential is one, or there is none
abbrev pub IsReadableCredential : Table → Text → Type 0
IsReadableCredential rows credential =
    (row : Row) → rows kind.Credential credential ≡ Some row → row ≡ credential_row row.owner

-- ---- looking leases up

-- the times of a lease that a row can hold
pub record AreTimesInRange (times : leases.Times) : Type 0 where
  pub issued : IsMoment times.issued
  pub ends : IsEnd times.ends
  pub renewed : IsSomeIn IsMoment times.renewed

-- the lease of a row, which has to be there
abbrev pub asked : Option Held → Result Held Refusal
asked o = some_or (refusal.BadRequest reason.InvalidLease) o

-- ---- a lease made, and renewed

-- the table with the rows of a lease and of its credential
abbrev pub with_issued : Table → Text → Text → Lease → Table
with_issued rows t lease_id l =
    with_row (with_row rows kind.Lease lease_id (lease_row t l)) kind.Credential l.credential (credential_row lease_id)

-- the end that a renewal gave, and the next rows
pub record RenewedRows : Type 0 where
  pub ends : ℕ
  pub rows : Table

-- the table with the row of a lease renewed, if there is one
abbrev pub renew : Table → Option Held → Text → ℕ → ℕ → Result RenewedRows Refusal
renew rows o lease_id now increment = do
  h ← asked o
  Ok (record {
    ends = leases.renewed_end now increment h.1;
    rows = with_row rows kind.Lease lease_id (lease_row h.0 (leases.renewed now increment h.1));
  })

-- no row has changed but that of the id
abbrev pub KeepsOtherLeases : Text → Table → Table → Type 0
KeepsOtherLeases lease_id old new =
    (k : Kind) (q : Text) → (k ≡ kind.Lease → q ≢ lease_id) → new k q ≡ old k q
