use Rattle.std.proofs.Common.{◌≡◌, ◌+◌, ◌∷◌, [], sym, ap, ◌∙◌, drop, map}
use Rattle.records.specs.Words.{drop_all, drop_more, Text, Row, RowKey, child, below, push_each}
use Rattle.records.proofs.ChildLemmas.{push_more}
use Rattle.records.proofs.children.push_children.Goals as goal

pub loop-entry-preserved : goal.loop-entry-preserved
loop-entry-preserved c =
    let prefix = c.args.prefix.now in
    let listed = c.args.listed.now in
    let i = c.loop-entry.entry-index in
    let names = c.loop-entry.names.items in
    let key = c.entry-item.result.0.1 in
    let rest = map (λ (e : RowKey × Row). e.0.1) (drop (i + 1) listed) in
    let more : drop i listed ≡ c.entry-item.result ∷ drop (i + 1) listed =
    drop_more listed i c.entry-item.result c.loop-entry-test.true
    ∙ sym (ap (λ (e : RowKey × Row). e ∷ drop (i + 1) listed) c.entry-item.is) in
    let named : c.as_str.result.now ≡ key = c.as_str.ensures ∙ ap (λ (e : RowKey × Row). e.0.1) c.entry.view_is in
    let pushed = c.in_ok-push_child.ensures ∙ ap (λ k. push_each names (map child (below prefix (k ∷ [])))) named in
    ap (λ ts. push_each ts (map child (below prefix rest))) pushed ∙ sym (push_more prefix key rest names)
    ∙ ap (λ es. push_each names (map child (below prefix (map (λ (e : RowKey × Row). e.0.1) es)))) (sym more)
    ∙ c.loop-entry.invariant

pub returns : goal.returns
returns c =
    let none : drop c.loop-entry.entry-index c.args.listed.now ≡ [] = drop_all _ _ c.loop-entry-test.false in
    rw none at c.loop-entry.invariant
