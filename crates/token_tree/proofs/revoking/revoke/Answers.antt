use Rattle.records.specs.Words.{rules, sym, subst, IfOk, OnOk, IfOk-weaker, honest_before, fault_then, not_damaged}
use Rattle.records.specs.Words.{each_fault, of_tokens, KeepsOthers, table_of}
use Rattle.token_tree.specs.Words.{is_named, EndsDescent, AreStarted, HasDamagedDescent}
use Rattle.token_tree.proofs.Ends.{on_each, undamaged, revocation_told, revocation_ended, revocation_unknown}
use Rattle.token_tree.proofs.Found.{damaged_descent}
use Rattle.token_tree.proofs.revoking.revoke.Goals as goal

pub returns-clause-rows : goal.returns-clause-rows
returns-clause-rows g c honest =
    let seen = g.T.RecordsTx.seen in
    let s = is_named c.args.token.now in
    let mid = honest_before (seen c.named.new.tx) (seen c.end_all.new.tx) _ c.end_all.ensures.call.goes_on honest in
    let same = c.in_ok-started.ensures.call.same mid in
    subst (λ rows. AreStarted s rows c.in_ok-started.started.items
    → IfOk c.end_all.result (λ list. EndsDescent s rows list.items (seen c.end_all.new.tx).rows)) same
    (c.end_all.ensures.rows honest) (c.in_ok-started.ensures.found mid)

pub returns-clause-told : goal.returns-clause-told
returns-clause-told g c honest forms b stands =
    on_each c.end_all.result _ (λ list ends. revocation_told forms b
    (g.T.RecordsTx.seen c.args.tx.now).rows stands c.args.token.now list.items _ ends)
    (returns-clause-rows g c honest)

pub returns-clause-ended : goal.returns-clause-ended
returns-clause-ended g c honest forms b stands =
    IfOk-weaker c.end_all.result _ _ (λ list ends. revocation_ended forms b
    (g.T.RecordsTx.seen c.args.tx.now).rows stands c.args.token.now list.items _ ends)
    (returns-clause-rows g c honest)

pub returns-clause-unknown : goal.returns-clause-unknown
returns-clause-unknown g c honest forms b stands none =
    IfOk-weaker c.end_all.result _ _ (λ list ends. revocation_unknown forms b
    (g.T.RecordsTx.seen c.args.tx.now).rows stands c.args.token.now list.items _ ends none)
    (returns-clause-rows g c honest)

pub returns-clause-wants : goal.returns-clause-wants
returns-clause-wants g c honest forms b stands =
    let seen = g.T.RecordsTx.seen in
    let s = is_named c.args.token.now in
    let mid = honest_before (seen c.named.new.tx) (seen c.end_all.new.tx) _ c.end_all.ensures.call.goes_on honest in
    let same = c.in_ok-started.ensures.call.same mid in
    each_fault (λ f. not_damaged (λ damage. undamaged forms b (seen c.args.tx.now).rows stands s
    (subst (HasDamagedDescent s) same
    (damage honest (subst (λ rows. AreStarted s rows c.in_ok-started.started.items) (sym same)
    (c.in_ok-started.ensures.found mid))))) f)
    c.end_all.result c.end_all.ensures.call.faults

pub returns-clause-call : goal.returns-clause-call
returns-clause-call g c =
    let seen = g.T.RecordsTx.seen in
    let s = is_named c.args.token.now in
    record {
      others = λ honest.
          let mid = honest_before (seen c.named.new.tx)
          (seen c.end_all.new.tx) _ c.end_all.ensures.call.goes_on honest in
          subst (λ rows. OnOk c.end_all.result
          (KeepsOthers of_tokens (table_of rows) (table_of (seen c.end_all.new.tx).rows)))
          (c.in_ok-started.ensures.call.same mid) (c.end_all.ensures.call.others honest);
      faults = each_fault (λ f. fault_then (λ damage honest.
          let mid = honest_before (seen c.named.new.tx)
          (seen c.end_all.new.tx) _ c.end_all.ensures.call.goes_on honest in
          let same = c.in_ok-started.ensures.call.same mid in
          damaged_descent s (seen c.args.tx.now).rows (subst (HasDamagedDescent s) same
          (damage honest (subst (λ rows. AreStarted s rows c.in_ok-started.started.items) (sym same)
          (c.in_ok-started.ensures.found mid))))) f)
          c.end_all.result c.end_all.ensures.call.faults;
      goes_on = search rules;
    }
