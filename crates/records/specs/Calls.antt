-- What holds of a call over a transaction, by how it ends (this project's definition).
use Rattle.std.specs.Prelude.{◌≡◌, Result, Ok, Err, ⊤, IfErr, OnOk}
use Rattle.broker_types.specs.Words.{Broker, step_fails, Forms}
use Rattle.broker_types.specs.declared.fault.Fault.{Fault}
use Rattle.broker_types.specs.declared.fault.Fault.TheVariants.{Memory, Storage, Damaged, BadStart}
use Rattle.broker_types.specs.declared.request_error.RequestError.{RequestError}
use Rattle.broker_types.specs.declared.request_error.RequestError.TheVariants.{Refused, Fault as Given}
use Rattle.records.specs.Table.{Table, table}
use Rattle.records.specs.Transaction.{Seen, IsHonest, GoesOn, is_storage}

-- ---- faults

-- memory ran out, the storage failed, or a row is damaged and the fact holds
abbrev pub IsReadFault : Type 0 → Fault → Type 0
IsReadFault P Memory = ⊤
IsReadFault P Storage = ⊤
IsReadFault P Damaged = P
IsReadFault P BadStart = ⊥

-- memory ran out, or a row is damaged and the fact holds
abbrev pub IsDecodeFault : Type 0 → Fault → Type 0
IsDecodeFault P Memory = ⊤
IsDecodeFault P Storage = ⊥
IsDecodeFault P Damaged = P
IsDecodeFault P BadStart = ⊥

-- ---- brokers

-- the fact holds of each broker that the rows before the call represent
abbrev pub OfEachBroker : (Forms → Table → Broker → Type 0) → Seen → Seen → (Broker → Type 0) → Type 0
OfEachBroker Represents old new Holds =
    IsHonest new → (forms : Forms) (b : Broker) → Represents forms (table old) b → Holds b

-- ---- calls, whatever the rows are

-- It is the same transaction afterwards, and these are the faults.
pub record IsCall {A : Type 0} (old new : Seen) (result : Result A Fault) (Fails : Fault → Type 0) : Type 0 where
  pub faults : IfErr result Fails
  pub goes_on : GoesOn old new (is_storage result)

-- A call that only reads: the rows stay, it is the same transaction, and these are the faults.
pub record IsReading {A : Type 0} (old new : Seen) (result : Result A Fault) (Fails : Fault → Type 0) : Type 0 where
  pub same : IsHonest new → OnOk result (new.rows ≡ old.rows)
  pub faults : IfErr result Fails
  pub goes_on : GoesOn old new (is_storage result)

-- A call that changes a part of the rows: the others are kept, it is the same transaction, and these are the faults.
pub record IsChange {A : Type 0} (Keeps : Table → Table → Type 0) (old new : Seen) (result : Result A Fault)
    (Fails : Fault → Type 0) : Type 0 where
  pub others : IsHonest new → OnOk result (Keeps (table old) (table new))
  pub faults : IfErr result Fails
  pub goes_on : GoesOn old new (is_storage result)

-- ---- calls that may be refused

-- the fact holds if the call answered or was refused
abbrev pub OnAnswer : {A : Type 0} → Result A RequestError → Type 0 → Type 0
OnAnswer (Ok x) P = P
OnAnswer (Err (Refused r)) P = P
OnAnswer (Err (Given f)) P = ⊤

-- the fact holds if the call was refused
abbrev pub OnRefused : {A : Type 0} → Result A RequestError → Type 0 → Type 0
OnRefused (Ok x) P = ⊤
OnRefused (Err (Refused r)) P = P
OnRefused (Err (Given f)) P = ⊤

-- the fact holds of the fault, if there is one
abbrev pub OnFault : {A : Type 0} → Result A RequestError → (Fault → Type 0) → Type 0
OnFault (Ok x) P = ⊤
OnFault (Err (Refused r)) P = ⊤
OnFault (Err (Given f)) P = P f

-- It is the same transaction afterwards, and these are the faults.
pub record IsRequestCall {A : Type 0} (old new : Seen) (result : Result A RequestError)
    (Fails : Fault → Type 0) : Type 0 where
  pub faults : OnFault result Fails
  pub goes_on : GoesOn old new (step_fails result)

-- A call that only reads, also if it is refused.
pub record IsRequestReading {A : Type 0} (old new : Seen) (result : Result A RequestError)
    (Fails : Fault → Type 0) : Type 0 where
  pub same : IsHonest new → OnAnswer result (new.rows ≡ old.rows)
  pub faults : OnFault result Fails
  pub goes_on : GoesOn old new (step_fails result)

-- A call that changes a part of the rows if it answers.
pub record IsRequestChange {A : Type 0} (Keeps : Table → Table → Type 0) (old new : Seen)
    (result : Result A RequestError) (Fails : Fault → Type 0) : Type 0 where
  pub others : IsHonest new → OnOk result (Keeps (table old) (table new))
  pub faults : OnFault result Fails
  pub goes_on : GoesOn old new (step_fails result)
