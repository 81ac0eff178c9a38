use Rattle.broker_model.specs.Words.{sym, ◌∙◌, subst, table_of, Text}
use Rattle.soundness.specs.Words.{IsCredentialOf}
use Rattle.soundness.proofs.ReadLemmas.{credential_unread, credential_of_owner, fails, is_error}
use Rattle.soundness.proofs.credentials.credential.Goals as goal

pub returns-then-is_err-clause-broken : goal.returns-then-is_err-clause-broken
returns-then-is_err-clause-broken g c honest =
    let e = is_error c.read_credential.result (sym c.is_err.ensures.value ∙ c.if-is_err.true) in
    credential_unread c.args.row.now c.read_credential.result tt c.read_credential.ensures e.0 e.1

pub returns-then-not-branch-clause-broken : goal.returns-then-not-branch-clause-broken
returns-then-not-branch-clause-broken g c honest =
    let e = c.in_ok-lease_has.ensures.whole honest in (
      c.args.row.now.owner,
      (
        tt,
        λ own. fails c.in_ok-lease_has.field-0 c.if-not-branch.true e
            (subst (λ (t : Text). IsCredentialOf (table_of (g.T.RecordsTx.seen c.args.tx.now).rows) c.args.key.now t)
            (sym c.as_str.ensures) own),
      ),
      credential_of_owner c.args.row.now c.read_credential.result c.read_credential.ensures
          (sym c.is_err.ensures.value ∙ c.if-is_err.false),
    )
