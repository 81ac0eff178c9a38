use Rattle.std.proofs.Common.{◌≡◌, ◌<◌, ◌-◌, ◌∷◌, ◌++◌, [], List, true, false, length, slice_get, take, string_bytes}
use Rattle.std.proofs.Common.{Some}
use Rattle.std.proofs.Common.{refl, sym, ap, ◌∙◌, subst, append_assoc, arith, rules}
use Rattle.records.specs.Words.{RowKey, IsHonest, honest_before, rows_from, rows_under, append-nil, not-false, Text}
use Rattle.records.specs.declared.row.Row.{Row}
use Rattle.transfer.proofs.PageOrder.{AreBefore, none_before, page_ends, page_more, ends_in}
use Rattle.transfer.proofs.walk.walk_kind.Goals as goal

pub loop-init : goal.loop-init
loop-init g c =
    let rows = (g.T.RecordsTx.seen c.args.tx.now).rows in
    record {
      same = λ honest. refl;
      visited = λ honest. (
        [],
        subst (λ (t : Text). AreBefore rows c.args.kind t []) (sym c.new-from.ensures.bytes)
            (none_before rows c.args.kind),
        λ first done has. subst (g.V.Visit.visited first c.args.visitor.now) (sym (append-nil done)) has,
      );
      goes_on = search rules;
    }

pub loop-preserved : goal.loop-preserved
loop-preserved g c =
    let seen = g.T.RecordsTx.seen in
    let first = (seen c.args.tx.now).rows in
    let page = c.in_ok-page.page.items in
    let from = string_bytes c.loop.from in
    record {
      same = search rules;
      visited = λ honest.
          let early = honest_before (seen c.loop.tx) (seen c.under_from.new.self) false
          c.in_ok-page.ensures.call.goes_on honest in
          let same = c.loop.invariant.same early in
          let so = c.loop.invariant.visited early in
          let is : page ≡ take 128 (rows_from first c.args.kind [] from) =
          c.in_ok-page.ensures.entries honest
          ∙ (λ i. take 128 (rows_from (same i) c.args.kind [] (c.as_str.ensures.value i))) in
          let some : 0 < length page = omega (arith, c.if-len.false, c.len.ensures) in
          let end = ends_in page some in
          let last : slice_get c.deref-in-loop.result.now (length c.deref-in-loop.result.now - 1) ≡ Some end.last =
          ap (λ (es : List (RowKey × Row)). slice_get es (length es - 1)) c.deref-in-loop.ensures.value ∙ end.got in
          let more : c.in_ok-visit.field-0 ≡ true = search rules in (
            so.0 ++ page,
            subst (λ (t : Text). AreBefore first c.args.kind t (so.0 ++ page))
                (sym (c.in_ok-from.ensures end.last last))
                (page_more first c.args.kind from 128 so.0 page is so.1 end.last end.front end.is),
            λ v rows has. subst (g.V.Visit.visited v c.visit.new.self)
                (ap (λ es. (rows ++ so.0) ++ es) c.deref.ensures.value ∙ append_assoc rows so.0 page)
                (c.in_ok-visit.ensures more v (rows ++ so.0) (so.2 v rows has)),
          );
      goes_on = search rules;
    }

pub returns-then-len-clause-visited : goal.returns-then-len-clause-visited
returns-then-len-clause-visited g c honest whole v rows has =
    let seen = g.T.RecordsTx.seen in
    let first = (seen c.args.tx.now).rows in
    let page = c.in_ok-page.page.items in
    let from = string_bytes c.loop.from in
    let early = honest_before (seen c.loop.tx) (seen c.under_from.new.self) false
    c.in_ok-page.ensures.call.goes_on honest in
    let same = c.loop.invariant.same early in
    let so = c.loop.invariant.visited early in
    let is : page ≡ take 128 (rows_from first c.args.kind [] from) =
    c.in_ok-page.ensures.entries honest
    ∙ (λ i. take 128 (rows_from (same i) c.args.kind [] (c.as_str.ensures.value i))) in
    let short : length page < 128 = omega (arith, c.if-len.true, c.len.ensures) in
    let more : c.in_ok-visit.field-0 ≡ true = search rules in
    subst (g.V.Visit.visited v c.visit.new.self)
    (ap (λ es. (rows ++ so.0) ++ es) c.deref.ensures.value ∙ append_assoc rows so.0 page
    ∙ ap (λ es. rows ++ es) (page_ends first c.args.kind from 128 so.0 page is so.1 short))
    (c.in_ok-visit.ensures more v (rows ++ so.0) (so.2 v rows has))
