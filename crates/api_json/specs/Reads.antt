-- What a reader answers: what its definition says, unless memory runs out (this project's definition).
use Rattle.std.specs.Prelude.{◌≡◌, Result, Ok, Err}
use Rattle.broker_types.specs.declared.fault.Fault.TheVariants.{Memory}
use Rattle.broker_types.specs.declared.refusal.Refusal.{Refusal}
use Rattle.broker_types.specs.declared.request_error.RequestError.{RequestError}
use Rattle.broker_types.specs.declared.request_error.RequestError.TheVariants.{Refused, Fault as Given}

-- the definition's refusal; running out of memory is the only fault
abbrev pub IsReadErr : {Y : Type 0} → Result Y Refusal → RequestError → Type 0
IsReadErr d (Refused r) = d ≡ Err r
IsReadErr d (Given f) = f ≡ Memory

-- the definition's value, as contracts see it
abbrev pub IsReadAs : {X Y : Type 0} → (X → Y) → Result Y Refusal → Result X RequestError → Type 0
IsReadAs see d (Ok x) = d ≡ Ok (see x)
IsReadAs see d (Err e) = IsReadErr d e

-- the same, of a value that contracts see as it is
abbrev pub IsRead : {X : Type 0} → Result X Refusal → Result X RequestError → Type 0
IsRead d (Ok x) = d ≡ Ok x
IsRead d (Err e) = IsReadErr d e
