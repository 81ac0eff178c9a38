-- Steps of a request that may be refused: how the code ends beside its definition (this project's definition).
use Rattle.std.specs.Prelude.{◌≡◌, Bool, true, false, Result, Ok, Err}
use Rattle.broker_types.specs.Fault.{IsMemoryOrStorage}
use Rattle.broker_types.specs.declared.fault.Fault.{Fault}
use Rattle.broker_types.specs.declared.fault.Fault.TheVariants.{Memory, Storage, Damaged, BadStart}
use Rattle.broker_types.specs.declared.refusal.Refusal.{Refusal}
use Rattle.broker_types.specs.declared.request_error.RequestError.{RequestError}
use Rattle.broker_types.specs.declared.request_error.RequestError.TheVariants.{Refused, Fault as Given}

-- the definition answers, and P relates its answer to the code's
abbrev pub EndsOk : {X Y : Type 0} → (X → Y → Type 0) → X → Result Y Refusal → Type 0
EndsOk P x (Ok y) = P x y
EndsOk P x (Err e) = ⊥

-- the definition refuses with the same refusal, and Q holds then
abbrev pub EndsRefused : {Y : Type 0} → Type 0 → Refusal → Result Y Refusal → Type 0
EndsRefused Q r (Ok y) = ⊥
EndsRefused Q r (Err e) = (r ≡ e) × Q

-- the code gives an error: a refusal as above, or memory ran out, or the storage failed
abbrev pub EndsErr : {Y : Type 0} → Type 0 → RequestError → Result Y Refusal → Type 0
EndsErr Q (Refused r) m = EndsRefused Q r m
EndsErr Q (Given f) m = IsMemoryOrStorage f

-- The code ends as its definition does: with P of both answers, or with the same refusal and Q; or memory ran out, or
-- the storage failed.
abbrev pub Ends : {X Y : Type 0} → (X → Y → Type 0) → Type 0 → Result X RequestError → Result Y Refusal → Type 0
Ends P Q (Ok x) m = EndsOk P x m
Ends P Q (Err e) m = EndsErr Q e m

-- whether the fault is that the storage failed
abbrev pub fault_fails : Fault → Bool
fault_fails Memory = false
fault_fails Storage = true
fault_fails Damaged = false
fault_fails BadStart = false

-- whether the code ended because the storage failed
abbrev pub step_fails : {X : Type 0} → Result X RequestError → Bool
step_fails (Ok x) = false
step_fails (Err (Refused r)) = false
step_fails (Err (Given f)) = fault_fails f
