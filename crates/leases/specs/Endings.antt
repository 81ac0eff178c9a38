-- What the end of leases makes of rows, whatever these are (this project's definition).
use Rattle.std.specs.Prelude.{◌≡◌, ◌||◌, if◌then◌else◌, ℕ, Bool, true, List, Option, Some, None, option_and_then}
use Rattle.records.specs.Words.{Text, same, Lease, Broker, lease_of, has, is_due, of_leases, KeepsOthers, lease_row}
use Rattle.records.specs.Words.{Table}
use Rattle.records.specs.declared.kind.Kind.TheVariants as kind
use Rattle.records.specs.declared.row.Row.{Row}
use Rattle.leases.specs.LeaseRows.{IsLeaseRow}
use Rattle.leases.specs.Leases as leases

-- which leases end, by their ids and their rows
abbrev pub Ending : Type 0
Ending = Text → Row → Bool

-- the lease of the id
abbrev pub is_named : Text → Ending
is_named lease_id = λ q row. same q lease_id

-- those whose ids begin with the prefix and a slash
abbrev pub ids_under : Text → Ending
ids_under prefix = λ q row. leases.is_under prefix q

-- those of the token t
abbrev pub is_owned : Text → Ending
is_owned t = λ q row. same row.owner t

-- those of any of the tokens
abbrev pub are_owned : List Text → Ending
are_owned tokens = λ q row. has tokens row.owner

-- those whose end is at or before now
abbrev pub has_come : ℕ → Ending
has_come now = λ q row. is_due now row.due

-- what ends by the one or by the other
abbrev pub either : Ending → Ending → Ending
either first second = λ q row. first q row || second q row

-- ---- rows

-- the rows of the leases that end are those of leases
abbrev pub AreReadable : Ending → Table → Type 0
AreReadable ends rows =
    (q : Text) (row : Row) → rows kind.Lease q ≡ Some row → ends q row ≡ true → IsLeaseRow row

-- the row of a lease, unless it ends
abbrev pub unless_ended : Ending → Text → Option Row → Option Row
unless_ended ends q o = option_and_then (λ row. if ends q row then None else Some row) o

-- a lease that ends came with the credential
pub record EndsWith (ends : Ending) (rows : Table) (credential : Text) : Type 0 where
  pub lease_id : Text
  pub owner : Text
  pub lease : Lease
  pub row : rows kind.Lease lease_id ≡ Some (lease_row owner lease)
  pub goes : ends lease_id (lease_row owner lease) ≡ true
  pub credential_is : lease.credential ≡ credential

-- The leases that end are gone: their rows were read, and are no longer there, nor are those of the credentials that
-- came with them. No other row has changed.
pub record EndsLeases (ends : Ending) (old new : Table) : Type 0 where
  pub readable : AreReadable ends old
  pub leases : (q : Text) → new kind.Lease q ≡ unless_ended ends q (old kind.Lease q)
  pub credentials_gone : (q : Text) → EndsWith ends old q → new kind.Credential q ≡ None
  pub credentials_left : (q : Text) → (EndsWith ends old q → ⊥) → new kind.Credential q ≡ old kind.Credential q
  pub others : KeepsOthers of_leases old new

-- ---- brokers

-- the leases of c are those of b, but for those that end
abbrev pub Leaves : Ending → Broker → Broker → Type 0
Leaves ends b c =
    (t q : Text) → lease_of c t q
    ≡ option_and_then (λ l. if ends q (lease_row t l) then None else Some l) (lease_of b t q)
