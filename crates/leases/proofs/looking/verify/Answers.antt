use Rattle.records.specs.Words.{is_some, ap, is_ok, sym, ◌∙◌, false≢true, err_from_is_err_and, none_of, table}
use Rattle.leases.proofs.LeaseFound.{verify_told, credential_readable}
use Rattle.leases.proofs.looking.verify.Goals as goal

pub returns-in_default-clause-told : goal.returns-in_default-clause-told
returns-in_default-clause-told g c honest forms b represents =
    sym (ap is_some (sym (c.in_ok-kept.ensures.found honest) ∙ none_of _ c.in_default.not-Some))
    ∙ verify_told (table (g.T.RecordsTx.seen c.args.tx.now)) b represents c.args.credential.now

pub returns-in_err-read_credential-clause-call : goal.returns-in_err-read_credential-clause-call
returns-in_err-read_credential-clause-call g c =
    let p = err_from_is_err_and c.from_residual-in_err-read_credential.result
    c.from_residual-in_err-read_credential.ensures.1 in
    rw (p.1, p.2, c.in_err-read_credential.ensures.damaged) (record {
      same = λ _. tt;
      faults = λ honest readable.
          absurd (false≢true (ap is_ok (c.in_err-read_credential.ensures.again (tt {0}) (tt {0})
          (readable c.in-Some.kept (sym (c.in_ok-kept.ensures.found honest) ∙ c.in-Some.is)))));
      goes_on = c.in_ok-kept.ensures.call.goes_on;
    })

pub returns-in_err-read_credential-clause-wants : goal.returns-in_err-read_credential-clause-wants
returns-in_err-read_credential-clause-wants g c honest forms b represents =
    absurd (false≢true (ap is_ok (c.in_err-read_credential.ensures.again (tt {0}) (tt {0})
    (credential_readable (table (g.T.RecordsTx.seen c.args.tx.now)) b represents c.args.credential.now
    c.in-Some.kept (sym (c.in_ok-kept.ensures.found honest) ∙ c.in-Some.is)))))

pub returns-clause-told : goal.returns-clause-told
returns-clause-told g c honest forms b represents =
    sym (ap is_some (sym (c.in_ok-kept.ensures.found honest) ∙ c.in-Some.is))
    ∙ verify_told (table (g.T.RecordsTx.seen c.args.tx.now)) b represents c.args.credential.now
