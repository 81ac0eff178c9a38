use Rattle.broker_model.specs.Words.{List, length, None, Some, Ok, Err, ap, get_or, sym, subst, ◌∙◌, arith}
use Rattle.broker_model.specs.Words.{err_from_is_err_and, credential_object, lease_reply, names_of, reply, Text, at}
use Rattle.broker_model.specs.Words.{IsIdentifier}
use Rattle.secret_operations.specs.Issuing.{IssuesLease}
use Rattle.secret_operations.proofs.IssuedAnswers.{acts_issued, acts_not_issued}
use Rattle.secret_operations.proofs.issued.credentials.issue.Goals as goal

pub returns-in_err-lease-clause-told : goal.returns-in_err-lease-clause-told
unfolding names_of
returns-in_err-lease-clause-told g c is_mount honest b starts new =
    let seen = g.T.RecordsTx.seen in
    let mount = c.args.mount.now in
    let name = c.args.name.now in
    let names = names_of c.args.context.now.words in
    let token = c.args.caller.now.token in
    let p = err_from_is_err_and c.from_residual.result c.from_residual.ensures.1 in
    let named = c.as_str.ensures ∙ c.index-own-0.is
    ∙ ap (λ (own : List Text). get_or own 0 c.index-own-0.result) c.requires.own.are in
    let credential = c.as_str-2.ensures ∙ c.index-own-1.is
    ∙ ap (λ (own : List Text). get_or own 1 c.index-own-1.result) c.requires.own.are in
    let told = subst (λ (p : Text × Text). IssuesLease c.args.caller.now c.args.context.now mount name p.0 p.1
    (seen c.args.tx.now) (seen c.put.new.tx)
    (Err c.in_err-lease.field-0.0)) (λ i. (named i, credential i)) (c.in_err-lease.ensures.told is_mount) in
    rw (p.1 ∙ ap Err p.2) (acts_not_issued b token (seen c.put.new.tx).rows names
    (at mount name) c.in_err-lease.field-0.0 (told honest b starts new))

pub returns-clause-told : goal.returns-clause-told
unfolding names_of
returns-clause-told g c is_mount honest b starts new =
    let seen = g.T.RecordsTx.seen in
    let mount = c.args.mount.now in
    let name = c.args.name.now in
    let names = names_of c.args.context.now.words in
    let token = c.args.caller.now.token in
    let lease = c.in_ok-lease.lease in
    let named = c.as_str.ensures ∙ c.index-own-0.is
    ∙ ap (λ (own : List Text). get_or own 0 c.index-own-0.result) c.requires.own.are in
    let credential = c.as_str-2.ensures ∙ c.index-own-1.is
    ∙ ap (λ (own : List Text). get_or own 1 c.index-own-1.result) c.requires.own.are in
    let told = subst (λ (p : Text × Text). IssuesLease c.args.caller.now c.args.context.now mount name p.0 p.1
    (seen c.args.tx.now) (seen c.put.new.tx)
    (Ok lease)) (λ i. (named i, credential i)) (c.in_ok-lease.ensures.told is_mount) in
    acts_issued b token (seen c.put.new.tx).rows names (at mount name) lease c.in_ok-given.field-0
    (told honest b starts new)
    (c.in_ok-given.ensures ∙ ap (λ t. reply (lease_reply names.request lease.0 lease.1 (Some (credential_object t)))
    None) credential)

pub put-requires-clause-named : goal.put-requires-clause-named
put-requires-clause-named g c =
    subst IsIdentifier (sym (c.as_str.ensures ∙ c.index-own-0.is))
    (c.requires.own.good 0 c.index-own-0.result (omega (arith, ap length c.requires.own.are)))

pub put-requires-clause-credential : goal.put-requires-clause-credential
put-requires-clause-credential g c =
    subst IsIdentifier (sym (c.as_str-2.ensures ∙ c.index-own-1.is))
    (c.requires.own.good 1 c.index-own-1.result (omega (arith, ap length c.requires.own.are)))

pub returns-clause-call : goal.returns-clause-call
returns-clause-call g c = record { faults = tt; goes_on = c.in_ok-lease.ensures.call.goes_on }
