use Rattle.std.proofs.Common.{◌∷◌, refl, ap, ◌∙◌, []}
use Rattle.broker_model.specs.Words.{IfOk-weaker}
use Rattle.broker_rows.proofs.FirstRows.{root_entry}
use Rattle.broker_rows.proofs.start.root_row.Goals as goal

pub returns : goal.returns
returns c =
    let e = root_entry c.args.issued c.args.accessor.now _ _ _ _ c.in_ok-copied.ensures (c.in_ok-vec.ensures.items
    ∙ ap (λ x. x ∷ []) c.in_ok-root.ensures) refl c.new.ensures.items in
    IfOk-weaker c.write_token.result _ _ (λ kept is. is ∙ e) c.write_token.ensures
