use Rattle.std.proofs.Common.{◌≡◌, rules, ◌∙◌, ap, None}
use Rattle.std.specs.FinMap as map
use Rattle.records.specs.Words.{Text, same, without, table, table_of, without_row, Seen, on_ok_weaker, table_of-remove}
use Rattle.records.specs.declared.kind.Kind.TheVariants as kind
use Rattle.cubbyhole.specs.Words.{object_key}
use Rattle.cubbyhole.proofs.Edits.{others_kept, tells_edited}
use Rattle.cubbyhole.proofs.ObjectKeys.{key_under}
use Rattle.cubbyhole.proofs.ObjectRows.{cubby-delete}
use Rattle.cubbyhole.proofs.writing.delete.Goals as goal

pub returns-clause-rows : goal.returns-clause-rows
returns-clause-rows g c honest =
    let old : Seen = g.T.RecordsTx.seen c.args.tx.now in
    let new : Seen = g.T.RecordsTx.seen c.remove.new.self in
    let key : Text = c.as_str.result.now in
    on_ok_weaker {P = new.rows ≡ map.remove old.rows (kind.Cubby, key)} c.remove.result (λ removed.
    ap table_of removed ∙ table_of-remove old.rows kind.Cubby key
    ∙ ap (without_row (table old) kind.Cubby) (c.as_str.ensures.value ∙ c.in_ok-key.ensures))
    (c.remove.ensures.rows honest)

pub returns-clause-call : goal.returns-clause-call
returns-clause-call g c =
    let seen = g.T.RecordsTx.seen in
    let t = c.args.token.now in
    let path = c.args.path.now in
    record {
      others = λ honest.
          on_ok_weaker c.remove.result (λ rows.
          others_kept t (λ q. same q (object_key t path)) None (table (seen c.args.tx.now))
          (table (seen c.remove.new.self)) rows (key_under t path))
          (returns-clause-rows g c honest);
      faults = c.remove.ensures.call.faults;
      goes_on = search rules;
    }

pub returns-clause-told : goal.returns-clause-told
returns-clause-told g c honest part b told len =
    let seen = g.T.RecordsTx.seen in
    let t = c.args.token.now in
    let path = c.args.path.now in
    on_ok_weaker c.remove.result (λ rows.
    tells_edited b t (λ m. without m path) (λ q. same q (object_key t path)) None (table (seen c.args.tx.now))
    (table (seen c.remove.new.self)) rows
    (cubby-delete b t len path) part told) (returns-clause-rows g c honest)
