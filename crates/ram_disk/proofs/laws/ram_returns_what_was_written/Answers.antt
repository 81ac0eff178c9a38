use Rattle.std.proofs.Common.{refl}
use Rattle.ram_disk.specs.CleanLaws.{always_clean}
use Rattle.ram_disk.proofs.laws.ram_returns_what_was_written.Goals as goal

pub returns : goal.returns
returns c = always_clean (λ _. refl)
