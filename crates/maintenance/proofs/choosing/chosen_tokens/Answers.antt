use Rattle.std.proofs.Common.{◌≡◌, ◌++◌, [], sym, ◌∙◌, ap, drop, filter, map}
use Rattle.broker_model.specs.Words.{append-nil, honest_before}
use Rattle.std.proofs.lemmas.List.{drop_all}
use Rattle.broker_rows.specs.Words.{still_represented}
use Rattle.maintenance.specs.Choosing.{is_chosen, is_chosen_at}
use Rattle.maintenance.proofs.Listed.{key_of, lists_tokens}
use Rattle.maintenance.proofs.choosing.chosen_tokens.Goals as goal

pub returns-clause-told : goal.returns-clause-told
returns-clause-told g c honest b st =
    let seen = g.T.RecordsTx.seen in
    let old = (seen c.args.tx.now).rows in
    let mid = (seen c.under.new.self).rows in
    let asked = honest_before (seen c.under.new.self) (seen c.loop-entry.tx) _ c.loop-entry.invariant.goes_on honest in
    let items = c.deref-entry-items.result.now in
    let p = is_chosen_at (is_chosen c.args.chosen.now) b in
    let none : drop c.loop-entry.entry-index items ≡ [] = drop_all _ _ c.loop-entry-test.false in
    let told = c.loop-entry.invariant.told honest b
    (still_represented b old mid (c.in_ok-listed.ensures.call.same asked) st) in
    sym (append-nil c.loop-entry.tokens.items)
    ∙ sym (ap (λ (es : _). c.loop-entry.tokens.items ++ filter p (map key_of es)) none) ∙ told
    ∙ ap (filter p) (ap (map key_of) (c.deref-entry-items.ensures.value ∙ c.in_ok-listed.ensures.entries asked)
    ∙ lists_tokens b old st.rows)
