use Rattle.std.proofs.Common.{◌≡◌, rules, Some, sym, ap, ◌∙◌, subst, is_some}
use Rattle.records.specs.Words.{err_from_is_err_and, get, honest_before, fault_then, Table, table_of, IsHonest}
use Rattle.wrapping.specs.Words.{NamesAt, IsDamagedName, RepresentsWaiting, IsDamagedWaiting, find_accessor}
use Rattle.wrapping.proofs.Names.{named_damaged}
use Rattle.wrapping.proofs.Responses.{named_has}
use Rattle.wrapping.proofs.dropping.drop_accessor.Goals as goal

pub returns-in_ok-take_out-in-Some-clause-dropped : goal.returns-in_ok-take_out-in-Some-clause-dropped
returns-in_ok-take_out-in-Some-clause-dropped g c honest b r =
    let seen = g.T.RecordsTx.seen in
    let mid = honest_before (seen c.find_accessor.new.tx) (seen c.take_out.new.tx) _
    c.in_ok-take_out-in-Some.ensures.call.goes_on honest in
    let a = c.args.accessor.now in
    let still = subst (λ (t : Table). RepresentsWaiting t b)
    (sym (ap table_of (c.in_ok-find_accessor.ensures.call.same mid))) r in
    let named : find_accessor b a ≡ Some c.in-Some.token = sym (c.in_ok-find_accessor.ensures.told mid b r)
    ∙ c.in-Some.is in
    c.is_some.ensures
    ∙ ap is_some (c.in_ok-take_out-in-Some.ensures.taken honest b still ∙ ap (get b.waiting) c.as_str.ensures
    ∙ (named_has b c.in-Some.token a named).1) ∙ sym (ap is_some named)

pub returns-in_err-take_out-in-Some-clause-call : goal.returns-in_err-take_out-in-Some-clause-call
returns-in_err-take_out-in-Some-clause-call g c =
    let seen = g.T.RecordsTx.seen in
    let old = table_of (seen c.args.tx.now).rows in
    let a = c.args.accessor.now in
    let p = err_from_is_err_and c.from_residual-in_err-take_out-in-Some.result
    c.from_residual-in_err-take_out-in-Some.ensures.1 in
    let mid = table_of (seen c.find_accessor.new.tx).rows in
    let before : (IsHonest (seen c.take_out.new.tx) → IsDamagedWaiting mid c.as_str.result.now)
    → IsHonest (seen c.take_out.new.tx) → IsDamagedName old a = λ damaged honest.
    let found = honest_before (seen c.find_accessor.new.tx) (seen c.take_out.new.tx) _
    c.in_err-take_out-in-Some.ensures.call.goes_on honest in
    let names = subst (NamesAt old a) c.in-Some.is (c.in_ok-find_accessor.ensures.found found) in
    named_damaged old a c.in-Some.token names
    (subst (λ (t : Table). IsDamagedWaiting t c.in-Some.token)
    (ap table_of (c.in_ok-find_accessor.ensures.call.same found))
    (subst (IsDamagedWaiting mid) c.as_str.ensures (damaged honest))) in
    record {
      others = search rules;
      faults = rw (p.1, p.2) (fault_then before _ c.in_err-take_out-in-Some.ensures.call.faults);
      goes_on = search rules;
    }
