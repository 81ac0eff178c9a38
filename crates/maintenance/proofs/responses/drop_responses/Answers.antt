use Rattle.std.proofs.Common.{◌≡◌, sym, ◌∙◌, ap, subst, map, length, None, rules}
use Rattle.std.proofs.lemmas.List.{length-map}
use Rattle.broker_model.specs.Words.{honest_before}
use Rattle.broker_rows.specs.Words.{Represents, still_represented}
use Rattle.maintenance.specs.Maintained.{dropped_each, responses_of}
use Rattle.maintenance.proofs.Dropped.{dropped_all}
use Rattle.maintenance.proofs.Listed.{key_of, lists_responses}
use Rattle.maintenance.proofs.responses.drop_responses.Goals as goal

pub returns-clause-told : goal.returns-clause-told
returns-clause-told g c honest b st =
    let seen = g.T.RecordsTx.seen in
    let old = (seen c.args.tx.now).rows in
    let mid = (seen c.under.new.self).rows in
    let asked = honest_before (seen c.under.new.self) (seen c.drop_each.new.tx) _ c.drop_each.ensures.call.goes_on
    honest in
    let listed : map key_of c.deref.result.now ≡ responses_of b =
    ap (map key_of) (c.deref.ensures.value ∙ c.in_ok-listed.ensures.entries asked) ∙ lists_responses b old st.rows in
    subst (Represents None (seen c.drop_each.new.tx).rows)
    (ap (λ (ts : _). dropped_each ts b) listed ∙ dropped_all b)
    (c.in_ok-drop_each.ensures.told honest b (still_represented b old mid (c.in_ok-listed.ensures.call.same asked) st))

pub returns-clause-counted : goal.returns-clause-counted
returns-clause-counted g c honest b st =
    let seen = g.T.RecordsTx.seen in
    let old = (seen c.args.tx.now).rows in
    let asked = honest_before (seen c.under.new.self) (seen c.drop_each.new.tx) _ c.drop_each.ensures.call.goes_on
    honest in
    let number : c.len.result ≡ length c.deref.result.now = search rules in
    number ∙ sym (length-map c.deref.result.now key_of)
    ∙ ap (λ (ts : _). length ts)
    (ap (map key_of) (c.deref.ensures.value ∙ c.in_ok-listed.ensures.entries asked) ∙ lists_responses b old st.rows)
