-- What a file in memory shows.
use Rattle.std.specs.Prelude.{◌≡◌, ◌≤◌, ◌<◌, ℕ, List, slice_index}
use Rattle.ram_disk.specs.declared.file.RamFile.{RamFile}

-- its member `seen`
abbrev pub bytes_of : RamFile → List ℕ
bytes_of f = f.bytes.items

-- the bytes from one place up to another are zeros
abbrev pub AreZero : ℕ → ℕ → List ℕ → Type 0
AreZero from to bytes = (i : ℕ) → from ≤ i → i < to → slice_index bytes i ≡ 0
