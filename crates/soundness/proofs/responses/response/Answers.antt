use Rattle.std.proofs.Common.{◌≡◌, refl, sym, ◌∙◌, ap, subst, arith}
use Rattle.broker_model.specs.Words.{Waiting, IsPathText, IsWaitingInRange, waiting_row, table_of}
use Rattle.soundness.proofs.ReadLemmas.{unread, fails}
use Rattle.records.specs.declared.kind.Kind.TheVariants as kind
use Rattle.soundness.proofs.responses.response.Goals as goal

pub returns-in_default-clause-broken : goal.returns-in_default-clause-broken
returns-in_default-clause-broken g c honest =
    unread IsWaitingInRange waiting_row c.args.row.now _ c.in_default.ensures _ refl

pub returns-then-waiting-eq0-clause-broken : goal.returns-then-waiting-eq0-clause-broken
returns-then-waiting-eq0-clause-broken g c honest =
    let read = c.in-Ok.ensures.exact in (
      c.in-Ok.waiting,
      (
        read.0,
        λ waits. omega
            (arith, waits, subst (λ (w : Waiting). w.ttl ≡ 0) c.waiting.view_is c.if-waiting-eq0.true),
      ),
      read.1,
    )

pub returns-then-not-is_path-clause-broken : goal.returns-then-not-is_path-clause-broken
returns-then-not-is_path-clause-broken g c honest =
    let read = c.in-Ok.ensures.exact in (
      c.in-Ok.waiting,
      (
        read.0,
        λ good. fails c.is_path.result c.if-not-is_path.true c.is_path.ensures.whole
            (subst (λ (w : Waiting). IsPathText w.path) (sym c.waiting.view_is) good),
      ),
      read.1,
    )

pub returns-then-not-branch-clause-broken : goal.returns-then-not-branch-clause-broken
returns-then-not-branch-clause-broken g c honest =
    let rows = table_of (g.T.RecordsTx.seen c.args.tx.now).rows in
    let read = c.in-Ok.ensures.exact in (
      c.in-Ok.waiting,
      (
        read.0,
        λ row. fails c.in_ok-is_named.field-0 c.if-not-branch.true (c.in_ok-is_named.ensures.whole honest)
            (ap (λ (w : Waiting). rows kind.Accessor w.accessor) c.waiting.view_is ∙ row),
      ),
      read.1,
    )
