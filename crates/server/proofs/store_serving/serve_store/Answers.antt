use Rattle.std.proofs.Common.{◌≡◌, ◌∙◌, Err, IsTrue, None, ap, sym, subst}
use Rattle.records.specs.Words.{err_from_is_err_and, Memory, Storage, Kept}
use Rattle.broker_rows.specs.Words.{Represents}
use Rattle.hub.specs.Words.{new_world}
use Rattle.server.specs.Noting.{store_of}
use Rattle.server.proofs.store_serving.serve_store.Goals as goal

pub returns-in_err-serve : goal.returns-in_err-serve
returns-in_err-serve g c always stands b represents =
    let p = err_from_is_err_and c.from_residual-in_err-serve.result c.from_residual-in_err-serve.ensures.1 in
    let opened = subst (λ (k : Kept). IsTrue k.is_open) (sym (c.new-hub.ensures.store ∙ c.new.ensures)) stands in
    let rows = subst (λ (k : Kept). Represents None k.rows b) (sym c.new.ensures) represents in
    let storage : c.in_err-serve.field-0.0 ≡ Storage =
    c.in_err-serve.ensures.ends.wants (always (store_of c.serve.new.service.hub.store)) opened (new_world b)
    (c.new-hub.ensures.represents b rows) in
    rw (p.1 ∙ ap Err p.2) (rw storage tt)

pub returns-in_err-notes : goal.returns-in_err-notes
returns-in_err-notes g c always stands b represents =
    let p = err_from_is_err_and c.from_residual.result c.from_residual.ensures.1 in
    let memory : c.in_err-notes.field-0.0 ≡ Memory = c.in_err-notes.ensures in
    rw (p.1 ∙ ap Err p.2) (rw memory tt)

pub returns-in_err-are_all : goal.returns-in_err-are_all
returns-in_err-are_all g c always stands b represents =
    let p = err_from_is_err_and c.from_residual-in_err-are_all.result c.from_residual-in_err-are_all.ensures.1 in
    let memory : c.in_err-are_all.field-0.0 ≡ Memory = c.in_err-are_all.ensures in
    rw (p.1 ∙ ap Err p.2) (rw memory tt)
