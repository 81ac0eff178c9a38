use Rattle.broker_sql.proofs.KindLemmas.{LookedSoFar}
use Rattle.broker_sql.proofs.emptiness.is_empty.Given as goal

abbrev pub invariant-loop-kind : goal.invariant-loop-kind
invariant-loop-kind g l =
    LookedSoFar (g.T.RecordsTx.seen l.fn.tx) (g.T.RecordsTx.seen l.tx) l.kind-index
