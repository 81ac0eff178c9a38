-- The statuses of replies (RFC 9110, section 15; 431 is of RFC 6585), and the methods of a path.
use Rattle.std.specs.Prelude.{ℕ, false}
use Rattle.broker_types.specs.declared.status.Status.{Status}
use Rattle.broker_types.specs.declared.status.Status.TheVariants as status
use Rattle.broker_types.specs.declared.status.Methods.{Methods}

-- the code of a status
abbrev pub status_code : Status → ℕ
status_code status.Success = 200
status_code status.NoContent = 204
status_code status.BadRequest = 400
status_code status.Forbidden = 403
status_code status.NotFound = 404
status_code status.MethodNotAllowed = 405
status_code status.PayloadTooLarge = 413
status_code status.HeaderFieldsTooLarge = 431
status_code status.InternalServerError = 500
status_code status.NotImplemented = 501

-- none of the methods
abbrev pub no_methods : Methods
no_methods = record { get = false; list = false; write = false; delete = false }
