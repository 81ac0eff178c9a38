use Rattle.std.proofs.Common.{◌≡◌, ◌<◌, ◌≤◌, ◌-◌, ◌++◌, ◌∷◌, [], List, length, slice_get, Some, refl, sym, ap, ◌∙◌}
use Rattle.broker_model.specs.Words.{subst, false, rules, arith, take, string_bytes, Text, Row, honest_before}
use Rattle.broker_model.specs.Words.{goes_further, RowKey, rows_from, rows_under}
use Rattle.std.proofs.Common.{Contains}
use Rattle.soundness.specs.Words.{IsOfKind, Walked}
use Rattle.soundness.proofs.PageOrder.{last_row}
use Rattle.soundness.proofs.PageWalk.{IsBelow, below_more, below_none, below_parts, counted_on, from_all, page_apart}
use Rattle.soundness.proofs.PageWalk.{page_below, page_can, page_ends, page_kind}
use Rattle.soundness.proofs.WalkLemmas.{can_as, has_room, is_full, walked_full, walked_further, walked_none}
use Rattle.soundness.proofs.WalkLemmas.{walked_page}
use Rattle.soundness.proofs.visiting.visit_kind.Goals as goal

pub loop-init : goal.loop-init
loop-init g c =
    let rows = (g.T.RecordsTx.seen c.args.tx.now).rows in
    record {
      same = λ honest. refl;
      walked = λ honest.
          subst (λ (t : Text). Walked rows (IsBelow rows c.args.kind t) c.args.walk.now c.args.walk.now)
          (sym c.new-from.ensures.bytes)
          (walked_none rows (IsBelow rows c.args.kind []) c.args.walk.now (below_none rows c.args.kind));
      counted = λ honest room.
          let all : length (rows_from rows c.args.kind [] (string_bytes c.new-from.result))
          ≡ length (rows_under rows c.args.kind []) =
          ap (λ (t : Text). length (rows_from rows c.args.kind [] t)) c.new-from.ensures.bytes
          ∙ ap length (from_all rows c.args.kind) in
          omega (arith, all);
      goes_on = search rules;
    }

pub returns-then-is_full-clause-walked : goal.returns-then-is_full-clause-walked
returns-then-is_full-clause-walked g c honest =
    let so = c.loop.invariant.walked honest in
    walked_full (g.T.RecordsTx.seen c.args.tx.now).rows _ _ c.args.walk.now c.loop.walk (λ e low. (low.0, low.1))
    (subst (λ n. n ≤ length c.loop.walk.troubles.items) so.most
    (is_full c.loop.walk c.is_full.result c.if-is_full.true c.is_full.ensures)) so

pub returns-then-len-clause-walked : goal.returns-then-len-clause-walked
returns-then-len-clause-walked g c honest =
    let seen = g.T.RecordsTx.seen in
    let first = (seen c.args.tx.now).rows in
    let page = c.in_ok-page.page.items in
    let from = string_bytes c.loop.from in
    let listed = honest_before (seen c.under_from.new.self)
    (seen c.visit_each.new.tx) false c.in_ok-count.ensures.call.goes_on honest in
    let early = honest_before (seen c.loop.tx)
    (seen c.under_from.new.self) false c.in_ok-page.ensures.call.goes_on listed in
    let same = c.loop.invariant.same early in
    let is : page ≡ take 16 (rows_from first c.args.kind [] from) =
    c.in_ok-page.ensures.entries listed
    ∙ (λ i. take 16 (rows_from (same i) c.args.kind [] (c.as_str.ensures.value i))) in
    let so = c.loop.invariant.walked early in
    let room = has_room c.loop.walk c.is_full.result c.if-is_full.false c.is_full.ensures in
    let counted = c.loop.invariant.counted early (subst (λ n. length c.loop.walk.troubles.items < n) so.most room) in
    let can = page_can first c.args.kind from 16 page is c.loop.count counted in
    let short : length page < 16 = omega (arith, c.if-len.true, c.len.ensures) in
    let kept = c.in_ok-page.ensures.call.same listed ∙ same in
    let one = walked_page first (seen c.under_from.new.self).rows kept c.loop.walk c.visit_each.new.walk page
    c.deref.result.now c.deref.ensures.value
    (c.in_ok-count.ensures.walked honest (can_as first (seen c.under_from.new.self).rows kept page c.deref.result.now
    c.deref.ensures.value c.loop.count can)) in
    walked_further first (IsBelow first c.args.kind from) (Contains page) (IsOfKind first c.args.kind)
    c.args.walk.now c.loop.walk c.visit_each.new.walk (λ e low. (low.0, low.1))
    (page_kind first c.args.kind from 16 page is) (page_ends first c.args.kind from 16 page is short)
    (page_apart first c.args.kind from 16 page is) so one

pub loop-preserved : goal.loop-preserved
loop-preserved g c =
    let seen = g.T.RecordsTx.seen in
    let first = (seen c.args.tx.now).rows in
    let page = c.in_ok-page.page.items in
    let from = string_bytes c.loop.from in
    let some : 0 < length page = omega (arith, c.if-len.false, c.len.ensures) in
    let e = last_row page some in
    let last : slice_get c.deref-in-loop.result.now (length c.deref-in-loop.result.now - 1) ≡ Some e.0 =
    ap (λ (es : List (RowKey × Row)). slice_get es (length es - 1)) c.deref-in-loop.ensures.value ∙ e.1 in
    let next : string_bytes c.in_ok-from.from ≡ e.0.0.1 ++ 0 ∷ [] = c.in_ok-from.ensures e.0 last in
    let room = has_room c.loop.walk c.is_full.result c.if-is_full.false c.is_full.ensures in
    record {
      same = λ honest.
          let listed = honest_before (seen c.under_from.new.self)
          (seen c.visit_each.new.tx) false c.in_ok-count.ensures.call.goes_on honest in
          let early = honest_before (seen c.loop.tx)
          (seen c.under_from.new.self) false c.in_ok-page.ensures.call.goes_on listed in
          c.in_ok-count.ensures.call.same honest ∙ c.in_ok-page.ensures.call.same listed
          ∙ c.loop.invariant.same early;
      walked = λ honest.
          let listed = honest_before (seen c.under_from.new.self)
          (seen c.visit_each.new.tx) false c.in_ok-count.ensures.call.goes_on honest in
          let early = honest_before (seen c.loop.tx)
          (seen c.under_from.new.self) false c.in_ok-page.ensures.call.goes_on listed in
          let same = c.loop.invariant.same early in
          let is : page ≡ take 16 (rows_from first c.args.kind [] from) =
          c.in_ok-page.ensures.entries listed
          ∙ (λ i. take 16 (rows_from (same i) c.args.kind [] (c.as_str.ensures.value i))) in
          let so = c.loop.invariant.walked early in
          let before = c.loop.invariant.counted early
          (subst (λ n. length c.loop.walk.troubles.items < n) so.most room) in
          let kept = c.in_ok-page.ensures.call.same listed ∙ same in
          let can = can_as first (seen c.under_from.new.self).rows kept page c.deref.result.now
          c.deref.ensures.value c.loop.count (page_can first c.args.kind from 16 page is c.loop.count before) in
          let one = walked_page first (seen c.under_from.new.self).rows kept c.loop.walk c.visit_each.new.walk page
          c.deref.result.now c.deref.ensures.value (c.in_ok-count.ensures.walked honest can) in
          subst (λ (t : Text). Walked first (IsBelow first c.args.kind t) c.args.walk.now c.visit_each.new.walk)
          (sym next)
          (walked_further first (IsBelow first c.args.kind from) (Contains page)
          (IsBelow first c.args.kind (e.0.0.1 ++ 0 ∷ [])) c.args.walk.now c.loop.walk c.visit_each.new.walk
          (below_more first c.args.kind from 16 page is e.0 e.1)
          (page_below first c.args.kind from 16 page is e.0 e.1)
          (below_parts first c.args.kind from 16 page is e.0 e.1) (page_apart first c.args.kind from 16 page is)
          so one);
      counted = λ honest more.
          let listed = honest_before (seen c.under_from.new.self)
          (seen c.visit_each.new.tx) false c.in_ok-count.ensures.call.goes_on honest in
          let early = honest_before (seen c.loop.tx)
          (seen c.under_from.new.self) false c.in_ok-page.ensures.call.goes_on listed in
          let same = c.loop.invariant.same early in
          let is : page ≡ take 16 (rows_from first c.args.kind [] from) =
          c.in_ok-page.ensures.entries listed
          ∙ (λ i. take 16 (rows_from (same i) c.args.kind [] (c.as_str.ensures.value i))) in
          let so = c.loop.invariant.walked early in
          let before = c.loop.invariant.counted early
          (subst (λ n. length c.loop.walk.troubles.items < n) so.most room) in
          let kept = c.in_ok-page.ensures.call.same listed ∙ same in
          let can = can_as first (seen c.under_from.new.self).rows kept page c.deref.result.now
          c.deref.ensures.value c.loop.count (page_can first c.args.kind from 16 page is c.loop.count before) in
          let number = c.in_ok-count.ensures.counted honest can
          (subst (λ n. length c.visit_each.new.walk.troubles.items < n) (sym so.most) more) in
          let shown : length c.deref.result.now ≡ length page = ap length c.deref.ensures.value in
          let on = counted_on first c.args.kind from 16 page is e.0 e.1 c.loop.count before some in
          let above : length (rows_from first c.args.kind [] (string_bytes c.in_ok-from.from))
          ≡ length (rows_from first c.args.kind [] (e.0.0.1 ++ 0 ∷ [])) =
          ap (λ (t : Text). length (rows_from first c.args.kind [] t)) next in
          omega (arith, number, shown, on, above);
      goes_on =
          goes_further (seen c.args.tx.now) (seen c.under_from.new.self) (seen c.visit_each.new.tx) false
          (goes_further (seen c.args.tx.now) (seen c.loop.tx)
          (seen c.under_from.new.self) false c.loop.invariant.goes_on c.in_ok-page.ensures.call.goes_on)
          c.in_ok-count.ensures.call.goes_on;
    }
