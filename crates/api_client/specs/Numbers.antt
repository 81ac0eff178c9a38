-- Numbers that digits tell (this project's).
use Rattle.std.specs.Prelude.{◌&&◌, ◌^◌, if◌then◌else◌, ℕ, nat_lt, Option, Some}
use Rattle.broker_types.specs.Words.{None, Text, digits_value}
use Rattle.http_layer.specs.Words.{is_number}

-- the number that digits tell, if it has at most 64 bits
abbrev pub number_told : Text → Option ℕ
number_told t = if is_number t && nat_lt (digits_value 10 t) (2 ^ 64) then Some (digits_value 10 t) else None
