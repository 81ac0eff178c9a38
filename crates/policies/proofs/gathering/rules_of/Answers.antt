use Rattle.std.proofs.Common.{◌≡◌, ap, sym, ◌∙◌, Err, false, get_or, flat_map, arith, rules, take_all}
use Rattle.records.specs.Words.{All-same, err_from_is_err_and, Text, fault_then, honest_before, goes_further, table}
use Rattle.records.specs.Words.{IsHonest}
use Rattle.policies.specs.Words.{rules_named, IsReadable}
use Rattle.policies.proofs.PoliciesGathered.{told_at, one_more_read, one_more, one_unread}
use Rattle.policies.proofs.gathering.rules_of.Goals as goal

pub returns-in_err-read-clause-wants : goal.returns-in_err-read-clause-wants
returns-in_err-read-clause-wants g c honest is_object policies sound are =
    let seen = g.T.RecordsTx.seen in
    let before = honest_before (seen c.loop-name.tx)
    (seen c.with_named.new.tx) _ c.in_err-read.ensures.call.goes_on honest in
    let name : Text = c.as_str.result.now in
    let is : name ≡ get_or c.args.names.now c.loop-name.name-index c.name-item.result = c.as_str.ensures
    ∙ c.name-item.is in
    let at = told_at (seen c.loop-name.tx).rows
    (seen c.args.tx.now).rows c.args.names.now c.loop-name.name-index c.name-item.result name
    (c.loop-name.invariant.same before) is c.loop-name-test.true policies are in
    let p = err_from_is_err_and c.from_residual.result c.from_residual.ensures.1 in
    rw (p.1 ∙ ap Err p.2) (c.in_err-read.ensures.wants honest is_object policies sound at)

pub returns-in_err-read-clause-call : goal.returns-in_err-read-clause-call
returns-in_err-read-clause-call g c =
    let seen = g.T.RecordsTx.seen in
    let name : Text = c.as_str.result.now in
    let is : name ≡ get_or c.args.names.now c.loop-name.name-index c.name-item.result = c.as_str.ensures
    ∙ c.name-item.is in
    let p = err_from_is_err_and c.from_residual.result c.from_residual.ensures.1 in
    record {
      same = search rules;
      faults = rw (p.1 ∙ ap Err p.2) (fault_then (λ unread honest.
          let before = honest_before (seen c.loop-name.tx)
          (seen c.with_named.new.tx) _ c.in_err-read.ensures.call.goes_on honest in
          one_unread (seen c.loop-name.tx).rows (seen c.args.tx.now).rows c.args.names.now c.loop-name.name-index
          c.name-item.result name
          (c.loop-name.invariant.same before) is c.loop-name-test.true (unread honest)) c.in_err-read.field-0.0
          c.in_err-read.ensures.call.faults);
      goes_on = search rules;
    }

pub loop-name-preserved : goal.loop-name-preserved
loop-name-preserved g c =
    let seen = g.T.RecordsTx.seen in
    let now = (seen c.loop-name.tx).rows in
    let old = (seen c.args.tx.now).rows in
    let names = c.args.names.now in
    let i = c.loop-name.name-index in
    let item = c.name-item.result in
    let name : Text = c.as_str.result.now in
    let is : name ≡ get_or names i item = c.as_str.ensures ∙ c.name-item.is in
    let before : IsHonest (seen c.with_named.new.tx) → IsHonest (seen c.loop-name.tx) = λ honest.
    honest_before (seen c.loop-name.tx) (seen c.with_named.new.tx) false c.in_ok-read.ensures.call.goes_on honest in
    record {
      told = λ honest policies are.
          let same = c.loop-name.invariant.same (before honest) in
          one_more now old names i item name same is c.loop-name-test.true (rules_named policies)
          (flat_map (λ p. p.value) c.loop-name.read.items)
          (flat_map (λ p. p.value) c.in_ok-read.read.items) _ (c.loop-name.invariant.told (before honest) policies are)
          (c.in_ok-read.ensures.told honest policies
          (told_at now old names i item name same is c.loop-name-test.true policies are));
      readable = λ honest.
          one_more_read now old names i item name (c.loop-name.invariant.same (before honest)) is c.loop-name-test.true
          (c.loop-name.invariant.readable (before honest)) (c.in_ok-read.ensures.readable honest);
      same = λ honest. c.in_ok-read.ensures.call.same honest ∙ c.loop-name.invariant.same (before honest);
      goes_on = goes_further (seen c.args.tx.now) (seen c.loop-name.tx)
          (seen c.with_named.new.tx) false c.loop-name.invariant.goes_on
          c.in_ok-read.ensures.call.goes_on;
    }

pub returns-clause-readable : goal.returns-clause-readable
returns-clause-readable g c honest =
    let names = c.args.names.now in
    All-same (IsReadable (table (g.T.RecordsTx.seen c.args.tx.now))) _ _
    (sym (take_all c.loop-name.name-index names (omega (arith, c.loop-name-test.false))))
    (c.loop-name.invariant.readable honest)
