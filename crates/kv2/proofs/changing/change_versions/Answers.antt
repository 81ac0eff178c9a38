use Rattle.std.proofs.Common.{◌<◌, ◌^◌, ◌==◌, ℕ, List, get_or, take, subst, sym, arith, rules}
use Rattle.records.specs.Words.{take_more, list_any_at, err_from_is_err_and, honest_before, eqb_self, table_of}
use Rattle.records.specs.Words.{IsHonest}
use Rattle.kv2.specs.Words.{change_of, AreChanged}
use Rattle.kv2.proofs.ChangeLemmas.{twice}
use Rattle.kv2.proofs.Changed.{changed_nothing, changed_more, read_after}
use Rattle.kv2.proofs.changing.change_versions.Goals as goal

pub loop-number-init : goal.loop-number-init
loop-number-init g c = record {
  rows = λ honest timely. changed_nothing (change_of c.args.change) c.args.name.now
      (table_of (g.T.RecordsTx.seen c.args.tx.now).rows);
  goes_on = search rules;
}

pub returns-in_err-change_version-clause-faults : goal.returns-in_err-change_version-clause-faults
returns-in_err-change_version-clause-faults g c honest timely has =
    let seen = g.T.RecordsTx.seen in
    let first : IsHonest (seen c.loop-number.tx) = honest_before _ _ _ c.change_version.ensures.call.goes_on honest in
    let n = get_or c.args.numbers.now c.loop-number.number-index 0 in
    let small : n < 2 ^ 64 = omega arith in
    let among = list_any_at (λ m. m == n) c.args.numbers.now c.loop-number.number-index 0 c.loop-number-test.true
    (eqb_self n) in
    let x = read_after (change_of c.args.change) c.args.name.now (take c.loop-number.number-index c.args.numbers.now)
    (table_of (seen c.args.tx.now).rows)
    (table_of (seen c.loop-number.tx).rows) (c.loop-number.invariant.rows first timely) n (has n small among) in
    let p = err_from_is_err_and c.from_residual.result c.from_residual.ensures.1 in
    rw (p.1, p.2) (c.in_err-change_version.ensures.faults honest x.0 x.1)

pub loop-number-preserved : goal.loop-number-preserved
loop-number-preserved g c = record {
  rows = λ honest timely.
      let seen = g.T.RecordsTx.seen in
      let first : IsHonest (seen c.loop-number.tx) = honest_before _ _ _ c.change_version.ensures.call.goes_on honest in
      let old = table_of (seen c.args.tx.now).rows in
      let new = table_of (seen c.change_version.new.tx).rows in
      let f = change_of c.args.change in
      let so_far = take c.loop-number.number-index c.args.numbers.now in
      let n = get_or c.args.numbers.now c.loop-number.number-index 0 in
      let one = c.loop-number.invariant.rows first timely in
      let two = c.in_ok-change_version.ensures.rows honest timely in
      subst (λ (ns : List ℕ). AreChanged f ns c.args.name.now old new)
      (sym (take_more c.args.numbers.now c.loop-number.number-index 0 c.loop-number-test.true))
      (changed_more f c.args.name.now (twice c.args.change) so_far n old
      (table_of (seen c.loop-number.tx).rows) new one two);
  goes_on = search rules;
}
