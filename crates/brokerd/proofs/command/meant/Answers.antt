use Rattle.std.proofs.Common.{refl, rules}
use Rattle.brokerd.proofs.command.meant.Goals as goal

-- ---- of names and what they mean: a name that it is not, and the name that it is

skip : {N P Q : Type 0} → ¬ N → Q → (N → P) × (¬ N → Q)
skip differs rest = (λ is. absurd (differs is), λ _. rest)

hit : {N P Q : Type 0} → N → P → (N → P) × (¬ N → Q)
hit is meant = (λ _. meant, λ differs. absurd (differs is))

pub returns-then-eq : goal.returns-then-eq
returns-then-eq c = hit (search rules) refl

pub returns-then-eq-2 : goal.returns-then-eq-2
returns-then-eq-2 c = skip (search rules) (hit (search rules) c.check_of.ensures)

pub returns-then-eq-3 : goal.returns-then-eq-3
returns-then-eq-3 c =
    skip (search rules) (skip (search rules) (hit (search rules) c.backup_of.ensures))

pub returns-then-eq-4 : goal.returns-then-eq-4
returns-then-eq-4 c =
    skip (search rules)
    (skip (search rules)
    (skip (search rules)
    (hit (search rules) c.new_root_of.ensures)))

pub returns-then-eq-5 : goal.returns-then-eq-5
returns-then-eq-5 c =
    skip (search rules)
    (skip (search rules)
    (skip (search rules)
    (skip (search rules)
    (hit (search rules) c.after_restore_of.ensures))))

pub returns-then-eq-6 : goal.returns-then-eq-6
returns-then-eq-6 c =
    skip (search rules)
    (skip (search rules)
    (skip (search rules)
    (skip (search rules)
    (skip (search rules)
    (hit (search rules) c.export_of.ensures)))))

pub returns-then-eq-7 : goal.returns-then-eq-7
returns-then-eq-7 c =
    skip (search rules)
    (skip (search rules)
    (skip (search rules)
    (skip (search rules)
    (skip (search rules)
    (skip (search rules)
    (hit (search rules) c.import_of.ensures))))))

pub returns-then-eq-8 : goal.returns-then-eq-8
returns-then-eq-8 c =
    skip (search rules)
    (skip (search rules)
    (skip (search rules)
    (skip (search rules)
    (skip (search rules)
    (skip (search rules)
    (skip (search rules)
    (hit (search rules) c.serve_of.ensures)))))))

pub returns : goal.returns
returns c =
    skip (search rules)
    (skip (search rules)
    (skip (search rules)
    (skip (search rules)
    (skip (search rules)
    (skip (search rules)
    (skip (search rules)
    (skip (search rules)
    (refl))))))))
