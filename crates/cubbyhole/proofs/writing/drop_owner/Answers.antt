use Rattle.records.specs.Words.{rules, ◌∙◌, [], None, nat_eq, starts_with, empty, table, without_under, on_ok_weaker}
use Rattle.records.specs.declared.kind.Kind.TheVariants as kind
use Rattle.cubbyhole.specs.Words.{object_key}
use Rattle.cubbyhole.proofs.Edits.{others_kept, tells_edited}
use Rattle.cubbyhole.proofs.Filed.{under_owned}
use Rattle.cubbyhole.proofs.ObjectRows.{cubby-drop_owner}
use Rattle.cubbyhole.proofs.writing.drop_owner.Goals as goal

pub returns-clause-rows : goal.returns-clause-rows
returns-clause-rows g c honest =
    let old = g.T.RecordsTx.seen c.args.tx.now in
    on_ok_weaker c.remove_under.result
    (λ rows. rows ∙ (λ i. without_under (table old) kind.Cubby ((c.as_str.ensures.value ∙ c.in_ok-key.ensures) i)))
    (c.remove_under.ensures.rows honest)

pub returns-clause-owned : goal.returns-clause-owned
returns-clause-owned g c honest filed len =
    let old = g.T.RecordsTx.seen c.args.tx.now in
    on_ok_weaker c.remove_under.result (λ rows. rows ∙ under_owned (table old) c.args.token.now filed len)
    (returns-clause-rows g c honest)

pub returns-clause-call : goal.returns-clause-call
returns-clause-call g c =
    let seen = g.T.RecordsTx.seen in
    let t = c.args.token.now in
    record {
      others = λ honest.
          on_ok_weaker c.remove_under.result (λ rows.
          others_kept t (λ q. starts_with nat_eq q (object_key t [])) None (table (seen c.args.tx.now))
          (table (seen c.remove_under.new.tx)) rows (λ q is. is))
          (returns-clause-rows g c honest);
      faults = c.remove_under.ensures.call.faults;
      goes_on = search rules;
    }

pub returns-clause-told : goal.returns-clause-told
returns-clause-told g c honest part b told len =
    let seen = g.T.RecordsTx.seen in
    let t = c.args.token.now in
    on_ok_weaker c.remove_under.result (λ rows.
    tells_edited b t (λ m. empty) (λ q. starts_with nat_eq q (object_key t [])) None (table (seen c.args.tx.now))
    (table (seen c.remove_under.new.tx)) rows
    (cubby-drop_owner b t len) part told) (returns-clause-rows g c honest)
