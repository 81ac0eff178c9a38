use Rattle.std.proofs.Common.{◌≡◌, ◌<◌, ◌^◌, ◌||◌, ◌∙◌, true, false, Some, ap, subst, sym}
use Rattle.records.specs.Words.{on_ok_weaker, honest_before, KeyEntry, eqb_self, table_of, Rows, IsHonest}
use Rattle.records.specs.DigitLaws.{wide}
use Rattle.kv2.specs.Words.{change_of, KeepsOtherNames, HasVersion, current_of, is_among}
use Rattle.kv2.proofs.Others.{changed_keeps}
use Rattle.kv2.proofs.changing.change_current.Goals as goal

pub returns-clause-others : goal.returns-clause-others
returns-clause-others g c honest timely =
    let seen = g.T.RecordsTx.seen in
    let first : IsHonest (seen c.find_key.new.tx) = honest_before _ _ _ c.change_version.ensures.call.goes_on honest in
    let name = c.args.name.now in
    let new = table_of (seen c.change_version.new.tx).rows in
    on_ok_weaker c.change_version.result (λ rows.
    subst (λ (r : Rows). KeepsOtherNames name (table_of r) new) (c.in_ok-key.ensures.call.same first)
    (changed_keeps name (table_of (seen c.find_key.new.tx).rows) (change_of c.args.change) _ new rows))
    (c.change_version.ensures.rows honest timely)

pub returns-clause-faults : goal.returns-clause-faults
returns-clause-faults g c honest k has versions =
    let seen = g.T.RecordsTx.seen in
    let first : IsHonest (seen c.find_key.new.tx) = honest_before _ _ _ c.change_version.ensures.call.goes_on honest in
    let name = c.args.name.now in
    let n = c.in-Some.key.current in
    let range = (c.in_ok-key.ensures.exact first).in_range c.in-Some.key c.in-Some.is in
    let small : n < 2 ^ 64 = wide n range.current in
    let known : Some c.in-Some.key ≡ k = sym c.in-Some.is ∙ c.in_ok-key.ensures.found first k has in
    let v = versions n small
    (subst (λ o. is_among (current_of o) n ≡ true) known (ap (λ b. b || false) (eqb_self n))) in
    c.change_version.ensures.faults honest v.0
    (subst (λ (e : KeyEntry). HasVersion (table_of (seen c.find_key.new.tx).rows) name e.current v.0)
    (sym c.key.view_is)
    (subst (λ (r : Rows). HasVersion (table_of r) name n v.0) (sym (c.in_ok-key.ensures.call.same first)) v.1))
