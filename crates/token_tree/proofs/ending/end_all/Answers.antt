use Rattle.records.specs.Words.{rules, sym, ap, ◌∙◌, subst, err_from_is_err_and, AllByRecursion, honest_before}
use Rattle.records.specs.Words.{fault_then, of_tokens, KeepsOthers, table_of, IsHonest}
use Rattle.token_tree.specs.Words.{EndsDescent, without_each, IsTokenRow, starts, AreStarted, HasDamagedDescent}
use Rattle.token_tree.proofs.Found.{found_ends, found_damaged, each_keeps}
use Rattle.token_tree.proofs.ending.end_all.Goals as goal

pub returns-in_err-remove_tokens-clause-call : goal.returns-in_err-remove_tokens-clause-call
returns-in_err-remove_tokens-clause-call g c =
    let seen = g.T.RecordsTx.seen in
    let rows = (seen c.args.tx.now).rows in
    let p = err_from_is_err_and c.from_residual-in_err-remove_tokens.result
    c.from_residual-in_err-remove_tokens.ensures.1 in
    let worse : (AllByRecursion IsTokenRow c.deref-2.result.now → ⊥) → IsHonest (seen c.remove_tokens.new.tx)
    → AreStarted (starts c.args.start.now) rows c.args.started.items
    → HasDamagedDescent (starts c.args.start.now) rows =
    λ damage honest started.
    let mid = honest_before (seen c.descend.new.tx)
    (seen c.remove_tokens.new.tx) _ c.remove_tokens.ensures.call.goes_on honest in
    let down = c.in_ok-ended.ensures.found mid started in
    found_damaged rows c.in_ok-ended.ended.items down.tokens (starts c.args.start.now) down.descent
    (subst (λ es. AllByRecursion IsTokenRow es → ⊥) c.deref-2.ensures.value damage) in
    record {
      others = search rules;
      faults = rw (p.1, p.2) (fault_then worse _ c.in_err-remove_tokens.ensures.call.faults);
      goes_on = search rules;
    }

pub returns-clause-rows : goal.returns-clause-rows
returns-clause-rows g c honest started =
    let seen = g.T.RecordsTx.seen in
    let rows = (seen c.args.tx.now).rows in
    let mid = honest_before (seen c.descend.new.tx)
    (seen c.remove_tokens.new.tx) _ c.in_ok-remove_tokens.ensures.call.goes_on honest in
    let down = c.in_ok-ended.ensures.found mid started in
    subst (λ list. EndsDescent (starts c.args.start.now) rows list (seen c.remove_tokens.new.tx).rows)
    (sym (c.in_ok-texts.ensures ∙ ap (Rattle.token_tree.specs.Walks.texts) c.deref.ensures.value))
    (found_ends rows c.in_ok-ended.ended.items down.tokens (starts c.args.start.now) down.descent
    (subst (AllByRecursion IsTokenRow) c.deref-2.ensures.value c.in_ok-remove_tokens.ensures.readable)
    (seen c.remove_tokens.new.tx).rows
    (c.in_ok-remove_tokens.ensures.rows honest
    ∙ ap (without_each c.deref-2.result.now) (c.in_ok-ended.ensures.call.same mid)
    ∙ ap (λ es. without_each es rows) c.deref-2.ensures.value))

pub returns-clause-any_list : goal.returns-clause-any_list
returns-clause-any_list g c honest =
    let seen = g.T.RecordsTx.seen in
    let rows = (seen c.args.tx.now).rows in
    let mid = honest_before (seen c.descend.new.tx)
    (seen c.remove_tokens.new.tx) _ c.in_ok-remove_tokens.ensures.call.goes_on honest in
    record {
      list = c.in_ok-ended.ended.items;
      descends = c.in_ok-ended.ensures.any_list mid;
      texts_are = c.in_ok-texts.ensures ∙ ap (Rattle.token_tree.specs.Walks.texts) c.deref.ensures.value;
      rows = c.in_ok-remove_tokens.ensures.rows honest
          ∙ ap (without_each c.deref-2.result.now) (c.in_ok-ended.ensures.call.same mid)
          ∙ ap (λ es. without_each es rows) c.deref-2.ensures.value;
    }

pub returns-clause-call : goal.returns-clause-call
returns-clause-call g c =
    record {
      others = λ honest.
          let seen = g.T.RecordsTx.seen in
          let mid = honest_before (seen c.descend.new.tx)
          (seen c.remove_tokens.new.tx) _ c.in_ok-remove_tokens.ensures.call.goes_on honest in
          subst (λ rows. KeepsOthers of_tokens (table_of (seen c.args.tx.now).rows) (table_of rows))
          (sym (c.in_ok-remove_tokens.ensures.rows honest
          ∙ ap (without_each c.deref-2.result.now) (c.in_ok-ended.ensures.call.same mid)))
          (each_keeps c.deref-2.result.now (seen c.args.tx.now).rows);
      faults = tt;
      goes_on = search rules;
    }
