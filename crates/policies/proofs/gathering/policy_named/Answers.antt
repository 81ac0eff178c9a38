use Rattle.records.specs.Words.{ap, sym, ◌∙◌, subst, Err, Some, is_some, is_ok, rules, false≢true, same_Some}
use Rattle.records.specs.Words.{err_from_is_err_and, get, IsShortText, not_damaged, decode_fault, table}
use Rattle.policies.specs.Words.{one_policy, IsPolicyAt}
use Rattle.policies.proofs.PoliciesGathered.{unread_named}
use Rattle.policies.proofs.PolicyTold.{short_texts, not_read}
use Rattle.policies.proofs.gathering.policy_named.Goals as goal

pub returns-clause-found : goal.returns-clause-found
returns-clause-found g c honest =
    record {
      text = Some c.in_ok-text.text.now;
      short = λ t is. subst IsShortText (same_Some c.in_ok-text.text.now t is) c.in_ok-text.ensures.exact.0;
      row = sym (c.in_ok-row.ensures.found honest) ∙ c.in-Some.is ∙ ap Some c.in_ok-text.ensures.exact.1;
      read = c.in_ok-policy_kept.ensures.exact;
    }

pub returns-in_err-text-clause-wants : goal.returns-in_err-text-clause-wants
returns-in_err-text-clause-wants g c honest is_object policies sound at =
    let name = c.args.name.now in
    absurd (not_read (table (g.T.RecordsTx.seen c.args.tx.now)) name c.in-Some.row
    (sym (c.in_ok-row.ensures.found honest) ∙ c.in-Some.is)
    (λ kept good row. false≢true (ap is_ok (c.in_err-text.ensures.again kept good row))) (get policies name)
    (short_texts is_object policies sound name) at)

pub returns-in_err-text-clause-call : goal.returns-in_err-text-clause-call
returns-in_err-text-clause-call g c =
    let p = err_from_is_err_and c.from_residual-in_err-text.result c.from_residual-in_err-text.ensures.1 in
    record {
      same = search rules;
      faults = rw (p.1 ∙ ap Err (p.2 ∙ c.in_err-text.ensures.damaged)) (λ honest _ gives.
          not_read (table (g.T.RecordsTx.seen c.args.tx.now)) c.args.name.now c.in-Some.row
          (sym (c.in_ok-row.ensures.found honest) ∙ c.in-Some.is)
          (λ kept good row. false≢true (ap is_ok (c.in_err-text.ensures.again kept good row))) gives.text gives.short
          gives.row);
      goes_on = search rules;
    }

pub returns-in_err-policy_kept-clause-wants : goal.returns-in_err-policy_kept-clause-wants
returns-in_err-policy_kept-clause-wants g c honest is_object policies sound at =
    let rows = table (g.T.RecordsTx.seen c.args.tx.now) in
    let name = c.args.name.now in
    let text = c.in_ok-text.text.now in
    let fault = c.in_err-policy_kept.field-0.0 in
    let kept : IsPolicyAt rows name (Some text) = sym (c.in_ok-row.ensures.found honest) ∙ c.in-Some.is
    ∙ ap Some c.in_ok-text.ensures.exact.1 in
    let policy = (sound name text (sym (one_policy rows name (Some text) (get policies name) kept at))).policy in
    let p = err_from_is_err_and c.from_residual-in_err-policy_kept.result
    c.from_residual-in_err-policy_kept.ensures.1 in
    rw (p.1 ∙ ap Err p.2) (not_damaged (λ none. false≢true (sym (ap is_some none) ∙ policy)) fault
    (decode_fault (λ none. none) fault c.in_err-policy_kept.ensures.faults))

pub returns-in_err-policy_kept-clause-call : goal.returns-in_err-policy_kept-clause-call
returns-in_err-policy_kept-clause-call g c =
    let fault = c.in_err-policy_kept.field-0.0 in
    let p = err_from_is_err_and c.from_residual-in_err-policy_kept.result
    c.from_residual-in_err-policy_kept.ensures.1 in
    record {
      same = search rules;
      faults = rw (p.1 ∙ ap Err p.2) (decode_fault (λ none honest.
          unread_named (table (g.T.RecordsTx.seen c.args.tx.now)) c.args.name.now c.in_ok-text.text.now
          (sym (c.in_ok-row.ensures.found honest) ∙ c.in-Some.is ∙ ap Some c.in_ok-text.ensures.exact.1) none) fault
          c.in_err-policy_kept.ensures.faults);
      goes_on = search rules;
    }
