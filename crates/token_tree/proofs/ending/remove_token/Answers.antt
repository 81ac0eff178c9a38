use Rattle.std.proofs.Common.{◌≡◌, sym, ap, ◌∙◌}
use Rattle.std.specs.FinMap as map
use Rattle.records.specs.declared.kind.Kind.TheVariants as kind
use Rattle.token_tree.specs.Words.{Row}
use Rattle.records.specs.Words.{token_tells, accessor_in, RowKey, TokenEntry, on_ok_weaker, honest_before}
use Rattle.token_tree.proofs.ending.remove_token.Goals as goal

pub returns-clause-rows : goal.returns-clause-rows
returns-clause-rows g c honest =
    let seen = g.T.RecordsTx.seen in
    let mid = honest_before (seen c.remove.new.self)
    (seen c.remove-2.new.self) _ c.remove-2.ensures.call.goes_on honest in
    let read = c.in_ok-token.ensures.exact in
    let told = token_tells c.in_ok-token.token read.0 in
    let accessor : c.as_str.result.now ≡ accessor_in c.args.entry.now.1 =
    c.as_str.ensures ∙ ap (λ (t : TokenEntry). t.accessor) c.token.view_is ∙ sym told ∙ ap accessor_in (sym read.1)
    ∙ ap (λ (e : RowKey × Row). accessor_in e.1) c.entry.view_is in
    let key : c.as_str-2.result.now ≡ c.args.entry.now.0.1 = c.as_str-2.ensures
    ∙ ap (λ (e : RowKey × Row). e.0.1) c.entry.view_is in
    on_ok_weaker c.remove-2.result
    (λ rows. rows ∙ (λ i. map.remove
    ((c.in_ok-remove.ensures.rows mid ∙ (λ j. map.remove (seen c.args.tx.now).rows (kind.Accessor, accessor j))) i)
    (kind.Token, key i))) (c.remove-2.ensures.rows honest)
