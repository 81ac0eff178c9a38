use Rattle.std.proofs.Common.{◌≡◌, rules, ◌∙◌, ap, Some}
use Rattle.std.specs.FinMap as map
use Rattle.records.specs.Words.{Text, same, put, cubby_row, table, table_of, with_row, Seen, on_ok_weaker}
use Rattle.records.specs.Words.{table_of-insert}
use Rattle.records.specs.declared.kind.Kind.TheVariants as kind
use Rattle.cubbyhole.specs.Words.{Row, object_key}
use Rattle.cubbyhole.proofs.Edits.{others_kept, tells_edited}
use Rattle.cubbyhole.proofs.ObjectKeys.{key_under}
use Rattle.cubbyhole.proofs.ObjectRows.{cubby-write}
use Rattle.cubbyhole.proofs.writing.write.Goals as goal

pub returns-clause-rows : goal.returns-clause-rows
returns-clause-rows g c honest =
    let old : Seen = g.T.RecordsTx.seen c.args.tx.now in
    let new : Seen = g.T.RecordsTx.seen c.put.new.self in
    let key : Text = c.as_str.result.now in
    let row : Row = c.in_ok-row.row in
    on_ok_weaker {P = new.rows ≡ map.insert old.rows (kind.Cubby, key) row} c.put.result (λ put.
    ap table_of put ∙ table_of-insert old.rows kind.Cubby key row
    ∙ (λ i. with_row (table old) kind.Cubby ((c.as_str.ensures.value ∙ c.in_ok-key.ensures) i) (c.in_ok-row.ensures i)))
    (c.put.ensures.rows honest)

pub returns-clause-call : goal.returns-clause-call
returns-clause-call g c =
    let seen = g.T.RecordsTx.seen in
    let t = c.args.token.now in
    let path = c.args.path.now in
    record {
      others = λ honest.
          on_ok_weaker c.put.result (λ rows.
          others_kept t (λ q. same q (object_key t path)) (Some (cubby_row t c.args.object.now))
          (table (seen c.args.tx.now)) (table (seen c.put.new.self)) rows
          (key_under t path)) (returns-clause-rows g c honest);
      faults = c.put.ensures.call.faults;
      goes_on = search rules;
    }

pub returns-clause-told : goal.returns-clause-told
returns-clause-told g c honest part b told here len =
    let seen = g.T.RecordsTx.seen in
    let t = c.args.token.now in
    let path = c.args.path.now in
    let object = c.args.object.now in
    on_ok_weaker c.put.result (λ rows.
    tells_edited b t (λ m. put m path object) (λ q. same q (object_key t path)) (Some (cubby_row t object))
    (table (seen c.args.tx.now))
    (table (seen c.put.new.self)) rows
    (cubby-write b t len path object here) part told) (returns-clause-rows g c honest)
