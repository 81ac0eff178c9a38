use Rattle.std.proofs.Common.{◌≡◌, ◌∙◌, Some, sym, ap, subst, nat_cmp}
use Rattle.std.specs.BTreeMap.{get}
use Rattle.hub.specs.Words.{HasNoRequest, Entry, One}
use Rattle.hub.proofs.EntryLemmas.{at_one}
use Rattle.hub.proofs.RequestLemmas.{is_one, no_request_at}
use Rattle.hub.proofs.table.has_request.Goals as goal

pub returns-in-Some-One-clause-answered : goal.returns-in-Some-One-clause-answered
returns-in-Some-One-clause-answered c = λ none.
    let there : get nat_cmp c.args.connections.now c.args.conn ≡ Some (One c.in-Some-One.connection) =
    sym c.in-Some-One.ensures.value ∙ ap (λ (e : Entry). Some e) c.in-Some-One.field-0-is in
    subst HasNoRequest (sym (at_one (get nat_cmp c.args.connections.now) c.args.conn c.in-Some-One.connection there))
    (c.has_request.ensures.answered none)

pub returns-in-Some-One-clause-waits : goal.returns-in-Some-One-clause-waits
returns-in-Some-One-clause-waits c = λ none.
    let there : get nat_cmp c.args.connections.now c.args.conn ≡ Some (One c.in-Some-One.connection) =
    sym c.in-Some-One.ensures.value ∙ ap (λ (e : Entry). Some e) c.in-Some-One.field-0-is in
    c.has_request.ensures.waits
    (subst HasNoRequest (at_one (get nat_cmp c.args.connections.now) c.args.conn c.in-Some-One.connection there) none)

pub returns-in-Some-ClosedRun-clause-answered : goal.returns-in-Some-ClosedRun-clause-answered
returns-in-Some-ClosedRun-clause-answered c = λ same.
    no_request_at (get nat_cmp c.args.connections.now) c.args.conn
    (ap is_one (sym c.in-Some-ClosedRun.ensures.value ∙ ap (λ (e : Entry). Some e) c.in-Some-ClosedRun.field-0-is))

pub returns-in-None-clause-answered : goal.returns-in-None-clause-answered
returns-in-None-clause-answered c = λ same.
    no_request_at (get nat_cmp c.args.connections.now) c.args.conn (ap is_one (sym c.in-None.ensures.value))
