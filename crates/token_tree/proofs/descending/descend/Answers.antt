use Rattle.std.proofs.Common.{◌≡◌, ◌<◌, ◌+◌, ◌++◌, rules, length, get_or, filter, not, sym, ap, ◌∙◌, subst, refl, arith}
use Rattle.records.specs.Words.{honest_before, RowKey, IsHonest}
use Rattle.token_tree.specs.Words.{Row, starts, children, Descends}
use Rattle.token_tree.proofs.Below.{descends_first, descends_further}
use Rattle.token_tree.proofs.Walks.{IsWalk, walk_begins, walk_goes_on, walk_ends}
use Rattle.token_tree.proofs.descending.descend.Goals as goal

pub loop-next-init : goal.loop-next-init
loop-next-init g c =
    record {
      walk = λ honest started. walk_begins _ _ _ started;
      down = λ honest. descends_first (g.T.RecordsTx.seen c.args.tx.now).rows c.args.started.items;
      same = λ honest. refl;
      goes_on = search rules;
    }

pub loop-next-preserved : goal.loop-next-preserved
loop-next-preserved g c =
    let seen = g.T.RecordsTx.seen in
    let s = starts c.args.start.now in
    let rows = (seen c.args.tx.now).rows in
    let es = c.loop-next.ended.items in
    let next = c.index.result.now in
    let below : c.loop-next.next < length es = omega (arith, c.loop-next-test.true, c.len.ensures) in
    let asked : c.as_str.result.now ≡ (get_or es c.loop-next.next next).0.1 =
    c.as_str.ensures ∙ ap (λ (e : RowKey × Row). e.0.1) c.behind-ended.view_is
    ∙ ap (λ (e : RowKey × Row). e.0.1) c.index.ensures in
    let found : (honest : IsHonest (seen c.children_of.new.tx))
    → (c.add_children.new.ended.items ≡ es ++ filter (λ (e : RowKey × Row). not (s e))
    (children rows (get_or es c.loop-next.next next).0.1)) =
    λ honest.
    let before = honest_before (seen c.loop-next.tx)
    (seen c.children_of.new.tx) _ c.in_ok-children.ensures.call.goes_on honest in
    let is : c.in_ok-children.children.items ≡ children rows (get_or es c.loop-next.next next).0.1 =
    c.in_ok-children.ensures.found honest ∙ (λ i. children (c.loop-next.invariant.same before i) (asked i)) in
    c.in_ok-add_children.ensures ∙ ap (λ l. es ++ filter (λ (e : RowKey × Row). not (s e)) l) is in
    record {
      walk = λ honest started.
          let before = honest_before (seen c.loop-next.tx)
          (seen c.children_of.new.tx) _ c.in_ok-children.ensures.call.goes_on honest in
          subst (λ l. IsWalk s rows l (c.loop-next.next + 1)) (sym (found honest))
          (walk_goes_on s rows es c.loop-next.next next below (c.loop-next.invariant.walk before started));
      down = λ honest.
          let before = honest_before (seen c.loop-next.tx)
          (seen c.children_of.new.tx) _ c.in_ok-children.ensures.call.goes_on honest in
          subst (Descends rows c.args.started.items) (sym (found honest))
          (descends_further s rows c.args.started.items es c.loop-next.next next below
          (c.loop-next.invariant.down before));
      same = λ honest.
          let before = honest_before (seen c.loop-next.tx)
          (seen c.children_of.new.tx) _ c.in_ok-children.ensures.call.goes_on honest in
          c.in_ok-children.ensures.call.same honest ∙ c.loop-next.invariant.same before;
      goes_on = search rules;
    }

pub returns-clause-found : goal.returns-clause-found
returns-clause-found g c honest started =
    walk_ends (starts c.args.start.now) (g.T.RecordsTx.seen c.args.tx.now).rows c.loop-next.ended.items c.loop-next.next
    (c.loop-next.invariant.walk honest started) (λ below. omega (arith, below, c.loop-next-test.false, c.len.ensures))
