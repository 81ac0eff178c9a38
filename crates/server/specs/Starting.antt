-- What serving a broker ends with whose rows are those of a sound one (this project's definition).
use Rattle.records.specs.Words.{⊤, Memory, Storage, Damaged, BadStart, Kept, IsHonestStore}
use Rattle.hub.specs.declared.serve.ConnectionFault.{ConnectionFault}
use Rattle.hub.specs.declared.serve.ConnectionFault.TheVariants.{Broker, Read, Write}

-- a store of a type whose storage never returns other than what was written, as memory
abbrev pub IsAlwaysHonest : {S : Type 0} → (S → Kept) → Type 0
IsAlwaysHonest {S} seen = (store : S) → IsHonestStore (seen store)

-- Memory ran out, the storage failed, two words are equal, or something could not be read or written (1, 2, 4, 5, 6). A
-- new broker has no damaged row (3).
abbrev pub IsFaultOfNew : ConnectionFault → Type 0
IsFaultOfNew (Broker Memory) = ⊤
IsFaultOfNew (Broker Storage) = ⊤
IsFaultOfNew (Broker Damaged) = ⊥
IsFaultOfNew (Broker BadStart) = ⊤
IsFaultOfNew Read = ⊤
IsFaultOfNew Write = ⊤
