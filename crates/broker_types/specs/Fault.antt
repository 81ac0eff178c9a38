-- Faults: why a call ended without an answer (this project's definition).
use Rattle.std.specs.Prelude.{◌≢◌, ℕ, ⊤, codes}
use Rattle.broker_types.specs.Text.{Text}
use Rattle.broker_types.specs.declared.fault.Fault.{Fault}
use Rattle.broker_types.specs.declared.fault.Fault.TheVariants as fault

-- the number under which programs report a fault
abbrev pub fault_number : Fault → ℕ
fault_number fault.Memory = 1
fault_number fault.Storage = 2
fault_number fault.Damaged = 3
fault_number fault.BadStart = 4

-- memory ran out, or the storage failed
abbrev pub IsMemoryOrStorage : Fault → Type 0
IsMemoryOrStorage fault.Memory = ⊤
IsMemoryOrStorage fault.Storage = ⊤
IsMemoryOrStorage fault.Damaged = ⊥
IsMemoryOrStorage fault.BadStart = ⊥

-- the fault is another than that of a store that cannot be started or opened
abbrev pub IsNotBadStart : Fault → Type 0
IsNotBadStart f = f ≢ fault.BadStart

-- what a fault prints
abbrev pub fault_text : Fault → Text
fault_text fault.Memory = codes "out of memory"
fault_text fault.Storage = codes "the storage failed"
fault_text fault.Damaged = codes "a damaged row"
fault_text fault.BadStart = codes "the store cannot be started or opened"
