use Rattle.std.proofs.Common.{◌≤◌, length, sym, ◌∙◌, ap, rules}
use Rattle.broker_model.specs.Words.{drop_of_length-le, table_of, without_cubbyholes}
use Rattle.broker_rows.proofs.ending.drop_cubbyholes.Goals as goal

pub returns-clause-rows : goal.returns-clause-rows
returns-clause-rows g c honest =
    let left = table_of (g.T.RecordsTx.seen c.loop-token.tx).rows in
    let past : length c.args.ended.now ≤ c.loop-token.token-index = search rules in
    ap (without_cubbyholes left) (sym (drop_of_length-le c.args.ended.now past)) ∙ c.loop-token.invariant.rows honest
