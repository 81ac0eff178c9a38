use Rattle.records.specs.Words.{rules, ◌∙◌, ap, sym, None, Some, cubby_row, none_of, table}
use Rattle.records.specs.declared.kind.Kind.TheVariants as kind
use Rattle.cubbyhole.proofs.ObjectsTold.{object_told, object_kept}
use Rattle.cubbyhole.proofs.reading.read.Goals as goal

pub returns-in_default-clause-found : goal.returns-in_default-clause-found
returns-in_default-clause-found g c honest =
    let old = g.T.RecordsTx.seen c.args.tx.now in
    ap (table old kind.Cubby) (sym (c.as_str.ensures.value ∙ c.in_ok-key.ensures))
    ∙ sym (c.in_ok-kept.ensures.found honest) ∙ none_of _ c.in_default.not-Some

pub returns-in_default-clause-told : goal.returns-in_default-clause-told
returns-in_default-clause-told g c honest b told len =
    object_told (table (g.T.RecordsTx.seen c.args.tx.now)) b c.args.token.now c.args.path.now None told len
    (returns-in_default-clause-found g c honest)

pub returns-in_err-object-clause-wants : goal.returns-in_err-object-clause-wants
returns-in_err-object-clause-wants g c honest forms b sound told len =
    let old = g.T.RecordsTx.seen c.args.tx.now in
    let kept = object_kept forms (table old) b c.args.token.now c.args.path.now c.in-Some.kept sound told len
    (ap (table old kind.Cubby) (sym (c.as_str.ensures.value ∙ c.in_ok-key.ensures))
    ∙ sym (c.in_ok-kept.ensures.found honest) ∙ c.in-Some.is) in
    absurd (let e = c.in_err-object.ensures.again kept.0 kept.1 kept.2 in cc)

pub returns-in_err-object-clause-call : goal.returns-in_err-object-clause-call
returns-in_err-object-clause-call g c = record { same = search rules; faults = search rules; goes_on = search rules }

pub returns-clause-found : goal.returns-clause-found
returns-clause-found g c honest =
    let old = g.T.RecordsTx.seen c.args.tx.now in
    ap (table old kind.Cubby) (sym (c.as_str.ensures.value ∙ c.in_ok-key.ensures))
    ∙ sym (c.in_ok-kept.ensures.found honest) ∙ c.in-Some.is
    ∙ ap Some (c.in_ok-object.ensures.exact.1 ∙ ap (cubby_row c.args.token.now) (sym c.in_ok-copied.ensures))

pub returns-clause-told : goal.returns-clause-told
returns-clause-told g c honest b told len =
    object_told (table (g.T.RecordsTx.seen c.args.tx.now)) b c.args.token.now c.args.path.now
    (Some c.in_ok-copied.field-0) told len
    (returns-clause-found g c honest)
