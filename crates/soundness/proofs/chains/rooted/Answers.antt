use Rattle.std.proofs.Common.{◌<◌, ◌++◌, ◌∷◌, rules, [], length, get_or, sym, ◌∙◌, subst, refl, arith, inl, All}
use Rattle.broker_model.specs.Words.{Contains, All-push, All-nil, Contains-push, get_or_default, Text, Row}
use Rattle.broker_model.specs.Words.{honest_before, RowKey, table_of, IsHonest, rows_owned}
use Rattle.records.specs.declared.kind.Kind.TheVariants as kind
use Rattle.soundness.specs.Words.{HasWordOf, Ends, IsAbove}
use Rattle.soundness.proofs.ChainLemmas.{children_end, none_ends}
use Rattle.soundness.proofs.RootedLemmas.{each_found, none_queued, one_more_done, still_queued}
use Rattle.soundness.proofs.chains.rooted.Goals as goal

pub loop-next-init : goal.loop-next-init
loop-next-init g c =
    let rows = table_of (g.T.RecordsTx.seen c.args.tx.now).rows in
    record {
      same = λ honest. refl;
      words = λ honest. none_ends rows _ c.new-words.ensures.empty;
      queue = λ honest. subst (All (IsAbove rows)) (sym c.in_ok-push.ensures.items)
          (All-push (IsAbove rows) _ c.in_ok-copied.field-0
          (subst (All (IsAbove rows)) (sym c.new-queue.ensures.items) (All-nil (IsAbove rows)))
          (inl c.in_ok-copied.ensures));
      root = subst (λ ts. Contains ts []) (sym c.in_ok-push.ensures.items)
          (subst (Contains (c.new-queue.result.items ++ c.in_ok-copied.field-0 ∷ [])) c.in_ok-copied.ensures
          (Contains-push c.new-queue.result.items c.in_ok-copied.field-0));
      queued = none_queued c.new-words.result _ c.new-words.ensures.empty;
      done = λ honest k d below. absurd (omega (arith, below));
      goes_on = search rules;
    }

pub loop-next-preserved : goal.loop-next-preserved
loop-next-preserved g c =
    let seen = g.T.RecordsTx.seen in
    let rows = (seen c.args.tx.now).rows in
    let es = c.loop-next.queue.items in
    let next = c.index.result.now in
    let below : c.loop-next.next < length es = omega (arith, c.loop-next-test.true, c.len.ensures) in
    let asked = c.as_str.ensures ∙ c.index.ensures in
    let owner : Text = get_or es c.loop-next.next next in
    let children : (honest : IsHonest (seen c.by_owner.new.self))
    → All (λ (e : RowKey × Row). Ends (table_of rows) e.0.1) c.deref.result.now = λ honest.
    let before = honest_before (seen c.loop-next.tx)
    (seen c.by_owner.new.self) _ c.in_ok-children.ensures.call.goes_on honest in
    let above = c.loop-next.invariant.queue before c.loop-next.next next below in
    let listed = c.deref.ensures.value ∙ c.in_ok-children.ensures.entries honest
    ∙ (λ i. rows_owned (c.loop-next.invariant.same before i) kind.Token (asked i)) in
    subst (All (λ (e : RowKey × Row). Ends (table_of rows) e.0.1)) (sym listed) (children_end rows _ above) in
    record {
      same = λ honest.
          let before = honest_before (seen c.loop-next.tx)
          (seen c.by_owner.new.self) _ c.in_ok-children.ensures.call.goes_on honest in
          c.in_ok-children.ensures.call.same honest ∙ c.loop-next.invariant.same before;
      words = λ honest.
          let before = honest_before (seen c.loop-next.tx)
          (seen c.by_owner.new.self) _ c.in_ok-children.ensures.call.goes_on honest in
          c.in_ok-add_each.ensures.words (table_of rows) (children honest) (c.loop-next.invariant.words before);
      queue = λ honest.
          let before = honest_before (seen c.loop-next.tx)
          (seen c.by_owner.new.self) _ c.in_ok-children.ensures.call.goes_on honest in
          c.in_ok-add_each.ensures.queue (table_of rows) (children honest) (c.loop-next.invariant.queue before);
      root = still_queued c.loop-next.words c.add_each.new.words es c.add_each.new.queue.items
          c.in_ok-add_each.ensures.grows [] c.loop-next.invariant.root;
      queued = c.in_ok-add_each.ensures.grows.queued c.loop-next.invariant.queued;
      done = λ honest.
          let before = honest_before (seen c.loop-next.tx)
          (seen c.by_owner.new.self) _ c.in_ok-children.ensures.call.goes_on honest in
          let listed = c.deref.ensures.value ∙ c.in_ok-children.ensures.entries honest
          ∙ (λ i. rows_owned (c.loop-next.invariant.same before i) kind.Token (asked i)) in
          one_more_done rows c.loop-next.words c.add_each.new.words es c.add_each.new.queue.items c.loop-next.next owner
          below (get_or_default es c.loop-next.next owner next below) c.in_ok-add_each.ensures.grows
          (subst (All (λ (e : RowKey × Row). HasWordOf c.add_each.new.words e.0.1)) listed
          c.in_ok-add_each.ensures.added) (c.loop-next.invariant.done before);
      goes_on = search rules;
    }

pub returns-clause-whole : goal.returns-clause-whole
returns-clause-whole g c honest =
    each_found (table_of (g.T.RecordsTx.seen c.args.tx.now).rows) c.loop-next.words c.loop-next.queue.items
    c.loop-next.next (omega (arith, c.loop-next-test.false, c.len.ensures)) c.loop-next.invariant.root
    c.loop-next.invariant.queued (c.loop-next.invariant.done honest)
