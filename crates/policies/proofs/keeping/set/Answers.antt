use Rattle.std.proofs.Common.{◌≡◌, ap, ◌∙◌, rules}
use Rattle.records.specs.Words.{put, policy_row, table_of, with_row, table_of-insert}
use Rattle.records.specs.declared.kind.Kind.TheVariants as kind
use Rattle.policies.specs.Words.{may_set, ArePolicies}
use Rattle.policies.proofs.PolicyEdits.{ends_then, others_put, policies_put}
use Rattle.policies.proofs.keeping.set.Goals as goal

pub returns-clause-rows : goal.returns-clause-rows
returns-clause-rows g c honest =
    let old = (g.T.RecordsTx.seen c.args.tx.now).rows in
    let new = (g.T.RecordsTx.seen c.put.new.self).rows in
    let name = c.args.name.now in
    let text = c.args.text.now in
    ends_then {X = Unit {0}} (may_set name text) c.in_ok-may_set.field-0 (λ _ next. table_of new ≡ next) (new ≡ old) tt
    (with_row (table_of old) kind.Policy name (policy_row text)) c.in_ok-may_set.ensures
    (ap table_of (c.in_ok-put.ensures.rows honest) ∙ table_of-insert old kind.Policy name c.in_ok-row.row
    ∙ ap (with_row (table_of old) kind.Policy name) c.in_ok-row.ensures)

pub returns-clause-call : goal.returns-clause-call
returns-clause-call g c =
    let old = (g.T.RecordsTx.seen c.args.tx.now).rows in
    let new = (g.T.RecordsTx.seen c.put.new.self).rows in
    let name = c.args.name.now in
    record {
      others = λ honest.
          others_put (table_of old) (table_of new) name c.in_ok-row.row
          (ap table_of (c.in_ok-put.ensures.rows honest) ∙ table_of-insert old kind.Policy name c.in_ok-row.row);
      faults = tt;
      goes_on = search rules;
    }

pub returns-clause-told : goal.returns-clause-told
returns-clause-told g c honest policies are =
    let old = (g.T.RecordsTx.seen c.args.tx.now).rows in
    let new = (g.T.RecordsTx.seen c.put.new.self).rows in
    let name = c.args.name.now in
    let text = c.args.text.now in
    ends_then {X = Unit {0}} (may_set name text) c.in_ok-may_set.field-0 (λ _ next. ArePolicies (table_of new) next)
    (new ≡ old) tt
    (put policies name text) c.in_ok-may_set.ensures
    (policies_put (table_of old) (table_of new) name policies text
    (ap table_of (c.in_ok-put.ensures.rows honest) ∙ table_of-insert old kind.Policy name c.in_ok-row.row
    ∙ ap (with_row (table_of old) kind.Policy name) c.in_ok-row.ensures) are)
