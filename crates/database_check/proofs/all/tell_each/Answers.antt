use Rattle.std.proofs.Common.{refl, sym, subst, ◌∙◌, false, rules, arith}
use Rattle.records.specs.Words.{honest_before, goes_further, Rows}
use Rattle.database_check.specs.Naming.{IsNumbered, TellsOf}
use Rattle.database_check.proofs.AllLemmas.{told_all, tell_more, tell_none}
use Rattle.database_check.proofs.all.tell_each.Goals as goal

pub loop-trouble-init : goal.loop-trouble-init
loop-trouble-init g c =
    record {
      same = λ honest. refl;
      told = λ honest all.
          tell_none (g.T.RecordsTx.seen c.args.tx.now).rows c.args.troubles.now c.new-list.result.items
          c.new-list.ensures.items;
      goes_on = search rules;
    }

pub loop-trouble-preserved : goal.loop-trouble-preserved
loop-trouble-preserved g c =
    let seen = g.T.RecordsTx.seen in
    let done = c.in_ok-at.ensures in
    let first = (seen c.args.tx.now).rows in
    record {
      same = λ honest.
          let early = honest_before (seen c.loop-trouble.tx) (seen c.at.new.tx) false done.call.goes_on honest in
          done.call.same honest ∙ c.loop-trouble.invariant.same early;
      told = λ honest all.
          let early = honest_before (seen c.loop-trouble.tx) (seen c.at.new.tx) false done.call.goes_on honest in
          let same = c.loop-trouble.invariant.same early in
          let t = c.trouble-item.result in
          let numbered : IsNumbered first t =
          subst (IsNumbered first) (sym c.trouble-item.is)
          (all c.loop-trouble.trouble-index t c.loop-trouble-test.true) in
          tell_more first c.loop-trouble.trouble-index c.args.troubles.now c.loop-trouble.list.items
          c.push.new.self.items (c.loop-trouble.invariant.told early all) c.loop-trouble-test.true
          c.in_ok-at.field-0 c.in_ok-push.ensures.items t c.trouble-item.is
          (subst (λ (r : Rows). TellsOf r t c.in_ok-at.field-0) same
          (done.tells honest (subst (λ (r : Rows). IsNumbered r t) (sym same) numbered)));
      goes_on = goes_further (seen c.args.tx.now) (seen c.loop-trouble.tx) (seen c.at.new.tx) false
          c.loop-trouble.invariant.goes_on done.call.goes_on;
    }

pub returns-clause-told : goal.returns-clause-told
returns-clause-told g c honest all =
    told_all (g.T.RecordsTx.seen c.args.tx.now).rows c.loop-trouble.trouble-index c.args.troubles.now
    c.loop-trouble.list.items (omega (arith, c.loop-trouble-test.false)) c.loop-trouble.auto.trouble-index-end
    (c.loop-trouble.invariant.told honest all)
