use Rattle.std.proofs.Common.{◌∷◌, [], ap, ◌∙◌}
use Rattle.maintenance.proofs.Root.{root_entry}
use Rattle.maintenance.proofs.new_root.root_record.Goals as goal

pub returns-clause-entry : goal.returns-clause-entry
returns-clause-entry c =
    root_entry c.args.clock c.args.accessor.now _ _ _ _ c.in_ok-copied.ensures
    (c.in_ok-vec.ensures.items ∙ ap (λ x. x ∷ []) c.in_ok-root.ensures) c.seconds.ensures.value c.new.ensures.items
