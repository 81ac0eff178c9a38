use Rattle.std.proofs.Common.{◌≡◌, ◌<◌, ◌-◌, false, [], List, length, slice_get, Some, refl, sym, ap, arith, ◌∙◌, rules}
use Rattle.records.specs.Words.{take, string_bytes, Text, honest_before, goes_further, children, keys_under, push_each}
use Rattle.records.specs.Words.{rows_from}
use Rattle.records.proofs.ChildWalk.{children_from, found_in, from_start, keys_of, walk_ends, walk_goes_on}
use Rattle.records.proofs.ChildrenNamed.{named_children}
use Rattle.records.proofs.ListedKeys.{listed_children}
use Rattle.records.proofs.children.list_children.Goals as goal

pub loop-init : goal.loop-init
loop-init g c =
    let rows = (g.T.RecordsTx.seen c.args.tx.now).rows in
    record {
      walk = λ honest.
          (λ i. push_each (c.new-names.ensures.items i)
          (children_from rows c.args.kind c.args.prefix.now (c.new-from.ensures.bytes i)))
          ∙ ap (push_each []) (from_start rows c.args.kind c.args.prefix.now);
      same = λ honest. refl;
      goes_on = search rules;
    }

pub returns-then-len-clause-set : goal.returns-then-len-clause-set
returns-then-len-clause-set g c honest =
    let seen = g.T.RecordsTx.seen in
    let rows = (seen c.args.tx.now).rows in
    let prefix = c.args.prefix.now in
    let names = c.loop.names.items in
    let page = c.in_ok-page.page.items in
    let from = string_bytes c.loop.from in
    let early = honest_before (seen c.loop.tx)
    (seen c.under_from.new.self) _ c.in_ok-page.ensures.call.goes_on honest in
    let is : page ≡ take 16 (rows_from rows c.args.kind prefix from) =
    c.in_ok-page.ensures.entries honest
    ∙ (λ i. take 16 (rows_from (c.loop.invariant.same early i) c.args.kind prefix (c.as_str.ensures.value i))) in
    let now : c.push_children.new.names.items ≡ push_each names (found_in prefix (keys_of page)) =
    c.in_ok-push_children.ensures ∙ ap (λ es. push_each names (found_in prefix (keys_of es))) c.deref.ensures.value in
    let short : length page < 16 = omega (arith, c.if-len.true, c.len.ensures) in
    now ∙ sym (walk_ends rows c.args.kind prefix from 16 names page is short) ∙ c.loop.invariant.walk early
    ∙ listed_children rows c.args.kind prefix prefix

pub returns-then-len-clause-named : goal.returns-then-len-clause-named
returns-then-len-clause-named g c honest outer folder paths parts names =
    let rows = (g.T.RecordsTx.seen c.args.tx.now).rows in
    returns-then-len-clause-set g c honest ∙ ap (λ p. children p (keys_under rows c.args.kind p)) parts
    ∙ named_children rows c.args.kind outer folder paths names

pub loop-preserved : goal.loop-preserved
loop-preserved g c =
    let seen = g.T.RecordsTx.seen in
    let rows = (seen c.args.tx.now).rows in
    let prefix = c.args.prefix.now in
    let names = c.loop.names.items in
    let page = c.in_ok-page.page.items in
    let from = string_bytes c.loop.from in
    record {
      walk = λ honest.
          let early = honest_before (seen c.loop.tx)
          (seen c.under_from.new.self) _ c.in_ok-page.ensures.call.goes_on honest in
          let is : page ≡ take 16 (rows_from rows c.args.kind prefix from) =
          c.in_ok-page.ensures.entries honest
          ∙ (λ i. take 16 (rows_from (c.loop.invariant.same early i) c.args.kind prefix (c.as_str.ensures.value i)))
          in
          let now : c.push_children.new.names.items ≡ push_each names (found_in prefix (keys_of page)) =
          c.in_ok-push_children.ensures
          ∙ ap (λ es. push_each names (found_in prefix (keys_of es))) c.deref.ensures.value in
          let some : 0 < length page = omega (arith, c.if-len.false, c.len.ensures) in
          let on = walk_goes_on rows c.args.kind prefix from 16 names page is some in
          let last : slice_get c.deref-in-loop.result.now (length c.deref-in-loop.result.now - 1) ≡ Some on.0 =
          ap (λ (ts : List Text). slice_get ts (length ts - 1)) (c.deref-in-loop.ensures.value ∙ now) ∙ on.1 in
          (λ i. push_each (now i) (children_from rows c.args.kind prefix (c.in_ok-from.ensures on.0 last i)))
          ∙ sym on.2 ∙ c.loop.invariant.walk early;
      same = λ honest.
          let early = honest_before (seen c.loop.tx)
          (seen c.under_from.new.self) _ c.in_ok-page.ensures.call.goes_on honest in
          c.in_ok-page.ensures.call.same honest ∙ c.loop.invariant.same early;
      goes_on = goes_further (seen c.args.tx.now) (seen c.loop.tx)
          (seen c.under_from.new.self) false c.loop.invariant.goes_on c.in_ok-page.ensures.call.goes_on;
    }
