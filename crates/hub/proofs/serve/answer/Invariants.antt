use Rattle.std.proofs.Common.{◌≡◌, ◌+◌, if◌then◌else◌, Ok, IsTrue, false}
use Rattle.broker_model.specs.Words.{Appends}
use Rattle.hub.specs.Words.{ConnectionsRepresent, hub_waiting, IsAnswered, Serves, Supplies, Connections}
use Rattle.hub.proofs.serve.answer.Given as goal

abbrev pub invariant-loop-more : goal.invariant-loop-more
invariant-loop-more g l = record {
  served : Serves g.S.Store.seen l.conn (λ read. read ≡ l.piece)
      (Appends (g.W.Sink.written l.fn.writer) (g.W.Sink.written l.writer))
      (Supplies g.C.Clock.may_tell l.fn.clock l.clock g.D.WordSource.may_give l.fn.words l.words) ⊥
      (IsTrue (g.W.Sink.has_failed l.writer)) (Ok l.more) l.fn.hub l.hub;
  answered : l.more ≡ false → (all : Connections) → ConnectionsRepresent l.hub all → IsAnswered all l.conn;
}

abbrev pub decreases-loop-more : goal.decreases-loop-more
decreases-loop-more g l = if l.more then hub_waiting l.hub l.conn + 1 else 0
