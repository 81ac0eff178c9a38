use Rattle.records.specs.Words.{ap, sym, ◌∙◌, Err, is_ok, rules, false≢true, err_from_is_err_and, table}
use Rattle.policies.proofs.PolicyTold.{not_read}
use Rattle.policies.proofs.keeping.kept_text.Goals as goal

pub returns-in_err-text-clause-call : goal.returns-in_err-text-clause-call
returns-in_err-text-clause-call g c =
    let p = err_from_is_err_and c.from_residual-in_err-text.result c.from_residual-in_err-text.ensures.1 in
    record {
      same = search rules;
      faults = rw (p.1 ∙ ap Err (p.2 ∙ c.in_err-text.ensures.damaged)) (λ honest text short at.
          not_read (table (g.T.RecordsTx.seen c.args.tx.now)) c.args.name.now c.in-Some.row
          (sym (c.in_ok-row.ensures.found honest) ∙ c.in-Some.is)
          (λ kept good row. false≢true (ap is_ok (c.in_err-text.ensures.again kept good row))) text short at);
      goes_on = search rules;
    }
