-- What pending bytes hold (this project's definition).
use Rattle.std.specs.Prelude.{◌≤◌, ℕ, List, length, drop}
use Rattle.transfer.specs.declared.pending.Pending.TheInside.{Inside}

-- the bytes that were not taken
abbrev pub bytes_in : Inside → List ℕ
bytes_in p = drop p.start p.bytes.items

-- they begin within the bytes
abbrev pub IsWithin : Inside → Type 0
IsWithin p = p.start ≤ length p.bytes.items
