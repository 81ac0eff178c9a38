use Rattle.records.specs.Words.{take, Appends, concat}
use Rattle.hub.specs.Words.{bytes_of}
use Rattle.replay.proofs.replaying.finish.Given as goal

abbrev pub invariant-loop-reply : goal.invariant-loop-reply
invariant-loop-reply g l = Appends (g.W.Sink.written l.fn.writer) (g.W.Sink.written l.writer)
    (concat (bytes_of (take l.reply-index l.replies)))
