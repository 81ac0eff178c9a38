use Rattle.std.proofs.Common.{◌≡◌, ◌+◌, Ok}
use Rattle.broker_model.specs.Words.{Appends, Consumes}
use Rattle.hub.specs.Words.{Serves, Supplies}
use Rattle.hub.proofs.serve.serve_connection.Given as goal

abbrev pub invariant-loop : goal.invariant-loop
invariant-loop g l = record {
  served : Serves g.S.Store.seen l.conn (Consumes (g.R.Source.left l.fn.reader) (g.R.Source.left l.reader))
      (Appends (g.W.Sink.written l.fn.writer) (g.W.Sink.written l.writer))
      (Supplies g.C.Clock.may_tell l.fn.clock l.clock g.D.WordSource.may_give l.fn.words l.words) ⊥ ⊥
      (Ok (tt {0})) l.fn.hub l.hub;
  counted : g.R.Source.pulls l.reader ≡ g.R.Source.pulls l.fn.reader + l.counter;
}
