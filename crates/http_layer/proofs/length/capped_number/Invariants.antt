use Rattle.std.proofs.Common.{◌≡◌, take, min, true}
use Rattle.broker_types.specs.Words.{is_ascii_digit, list_all, digits_value}
use Rattle.http_layer.proofs.length.capped_number.Given as goal

abbrev pub invariant-loop-b : goal.invariant-loop-b
invariant-loop-b l =
    (list_all is_ascii_digit (take l.b-index l.digits) ≡ true)
    × (l.value ≡ min (digits_value 10 (take l.b-index l.digits)) 1048577)
