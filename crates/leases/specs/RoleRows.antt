-- Roles as rows: each has one, at its mount, a slash and its name (this project's row format).
use Rattle.records.specs.Words.{Option, Result, Ok, Text, is_name, Role, ◌>>=◌, unless, Refusal, IsRoleInRange, IsRowOf}
use Rattle.records.specs.Words.{role_row, Table, with_row}
use Rattle.broker_types.specs.declared.refusal.Refusal.TheVariants as refusal
use Rattle.broker_types.specs.declared.refusal.Reason.TheVariants as reason
use Rattle.records.specs.declared.kind.Kind.TheVariants as kind
use Rattle.leases.specs.LeaseRows.{with_issued}
use Rattle.leases.specs.Roles.{role_name, IssuedLease}

-- the row of a role is that of the record, or there is none
abbrev pub IsRoleAt : Table → Text → Text → Option Role → Type 0
IsRoleAt rows mount name o = IsRowOf IsRoleInRange role_row (rows kind.Role (role_name mount name)) o

-- the row of a role is that of one, or there is none
abbrev pub IsReadableRole : Table → Text → Text → Type 0
IsReadableRole rows mount name = (o : Option Role) × IsRoleAt rows mount name o

-- the table with the row of a role, whose name has to be one
abbrev pub set_role : Table → Text → Text → Role → Result Table Refusal
set_role rows mount name r = do
  named ← unless (is_name name) (refusal.BadRequest reason.InvalidName)
  Ok (with_row rows kind.Role (role_name mount name) (role_row r))

-- the table with the rows of a lease that was made for the token t
abbrev pub with_lease : Table → Text → IssuedLease → Table
with_lease rows t i = with_issued rows t i.lease_id i.lease
