-- Why the storage failed, by what the database answers (this project's definition).
use Rattle.std.specs.Prelude.{◌≡◌, Bool, false, Option, Some}
use Rattle.sqlite.specs.declared.error.Error.{Error}
use Rattle.sqlite.specs.declared.error.Error.TheVariants.{SqliteFailure, SqlInputError}
use Rattle.sqlite.specs.declared.error.ErrorCode.{ErrorCode}
use Rattle.sqlite.specs.declared.error.ErrorCode.TheVariants as code
use Rattle.sqlite_resolve.specs.declared.error.CompileError.TheVariants as statement
use Rattle.records_sql.specs.declared.cause.Cause.{Cause}
use Rattle.records_sql.specs.declared.cause.Cause.TheVariants as cause

-- the cause that a code tells
abbrev pub cause_of_code : ErrorCode → Cause
cause_of_code code.CannotOpen = cause.CannotOpen
cause_of_code code.DatabaseBusy = cause.InUse
cause_of_code code.NotADatabase = cause.Damaged
cause_of_code code.DatabaseCorrupt = cause.Damaged
cause_of_code code.DiskFull = cause.Full
cause_of_code code.SystemIoFailure = cause.Disk
cause_of_code code.OutOfMemory = cause.Memory
cause_of_code code.TooBig = cause.TooLarge
cause_of_code code.SchemaTooBig = cause.TooLarge
cause_of_code code.NoRowid = cause.TooLarge
cause_of_code code.Closed = cause.Closed
cause_of_code _ = cause.Refused

-- the cause that an error tells
abbrev pub cause_of : Error → Cause
cause_of (SqliteFailure found) = cause_of_code found
cause_of (SqlInputError statement.OutOfMemory) = cause.Memory
cause_of _ = cause.Refused

-- what only follows from an earlier failure leaves the cause of that
abbrev pub after : Option Cause → Cause → Cause
after (Some earlier) cause.Closed = earlier
after _ found = found

-- A call that does not fail by the storage leaves the cause of the last one that did, if there was one.
abbrev pub KeepsCause : Bool → Option Cause → Option Cause → Type 0
KeepsCause is_storage old new = is_storage ≡ false → new ≡ old
