use Rattle.records.specs.Words.{sym, ap, subst, ◌∙◌, Err, Some, is_ok, rules, false≢true, same_Some}
use Rattle.records.specs.Words.{err_from_is_err_and, Mount, IsMountInRange, table, none_of}
use Rattle.mounts.proofs.MountReads.{not_read}
use Rattle.mounts.proofs.routing.type_of.Goals as goal

pub returns-in_err-mount-clause-call : goal.returns-in_err-mount-clause-call
returns-in_err-mount-clause-call g c =
    let p = err_from_is_err_and c.from_residual-in_err-mount.result c.from_residual-in_err-mount.ensures.1 in
    record {
      same = search rules;
      faults = rw (p.1 ∙ ap Err (p.2 ∙ c.in_err-mount.ensures.damaged)) (λ honest mount at.
          not_read (table (g.T.RecordsTx.seen c.args.tx.now)) c.args.name.now c.in-Some-2.kept
          (sym (c.in_ok-kept.ensures.found honest) ∙ c.in-Some-2.is)
          (λ m good row. false≢true (ap is_ok (c.in_err-mount.ensures.again m good row))) mount
          (at (sym c.fixed_type.ensures ∙ none_of _ c.in_default.not-Some)));
      goes_on = search rules;
    }

pub returns-clause-readable : goal.returns-clause-readable
returns-clause-readable g c honest =
    let m : Mount = c.in_ok-mount.mount in
    let read = c.in_ok-mount.ensures.exact in (
      Some m,
      λ _. record {
        in_range = λ x is. subst IsMountInRange (same_Some m x is) read.0;
        row = sym (c.in_ok-kept.ensures.found honest) ∙ c.in-Some-2.is ∙ ap Some read.1;
      },
    )
