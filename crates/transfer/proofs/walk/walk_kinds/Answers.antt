use Rattle.std.proofs.Common.{◌≡◌, ◌++◌, [], List, true, false, refl, sym, ap, ◌∙◌, subst, rules, take, flat_map}
use Rattle.records.specs.Words.{RowKey, Rows, honest_before, rows_under, take_all, append-nil}
use Rattle.records.specs.declared.kind.Kind.{Kind}
use Rattle.records.specs.declared.row.Row.{Row}
use Rattle.transfer.proofs.KindOrder.{kinds_more}
use Rattle.transfer.proofs.walk.walk_kinds.Goals as goal

pub loop-kind-init : goal.loop-kind-init
loop-kind-init g c =
    record {
      same = λ honest. refl;
      visited = λ honest v rows has. subst (g.V.Visit.visited v c.args.visitor.now) (sym (append-nil rows)) has;
      goes_on = search rules;
    }

pub loop-kind-preserved : goal.loop-kind-preserved
loop-kind-preserved g c =
    let seen = g.T.RecordsTx.seen in
    let all = (seen c.args.tx.now).rows in
    let i = c.loop-kind.kind-index in
    let ks = c.args.kinds.now in
    let of : Kind → List (RowKey × Row) = λ k. rows_under all k [] in
    record {
      same = search rules;
      visited = λ honest v rows has.
          let early = honest_before (seen c.loop-kind.tx) (seen c.walk_kind.new.tx) false
          c.in_ok-walk_kind.ensures.call.goes_on honest in
          let so = c.loop-kind.invariant.visited early v rows has in
          let more : c.in_ok-walk_kind.field-0 ≡ true = search rules in
          let now = c.in_ok-walk_kind.ensures.visited honest more v (rows ++ flat_map of (take i ks)) so in
          kinds_more (g.V.Visit.visited v c.walk_kind.new.visitor) all (seen c.loop-kind.tx).rows
          (c.loop-kind.invariant.same early) rows ks i _ c.loop-kind-test.true now;
      goes_on = search rules;
    }

pub returns-clause-visited : goal.returns-clause-visited
returns-clause-visited g c honest whole v rows has =
    let all = (g.T.RecordsTx.seen c.args.tx.now).rows in
    subst (g.V.Visit.visited v c.loop-kind.visitor)
    (ap (λ (ks : List Kind). rows ++ flat_map (λ k. rows_under all k []) ks)
    (take_all c.loop-kind.kind-index c.args.kinds.now c.loop-kind-test.false))
    (c.loop-kind.invariant.visited honest v rows has)
