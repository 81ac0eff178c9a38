use Rattle.std.proofs.Common.{refl}
use Rattle.std.proofs.lemmas.Result.{IfOk-weaker}
use Rattle.ram_disk.specs.CleanLaws.{always_clean}
use Rattle.ram_disk.proofs.FoundLemmas.{none_found}
use Rattle.ram_disk.proofs.opening.open.Goals as goal

pub returns-clause-opened : goal.returns-clause-opened
returns-clause-opened c =
    IfOk-weaker c.open_files.result _ _ (λ conn opened. opened (always_clean (λ _. refl) conn))
    c.open_files.ensures.opened

pub returns-clause-empty : goal.returns-clause-empty
returns-clause-empty c =
    IfOk-weaker c.open_files.result _ _
    (λ conn found. none_found _ _ c.new-2.ensures.empty (found (always_clean (λ _. refl) conn)).reads)
    c.open_files.ensures.found
