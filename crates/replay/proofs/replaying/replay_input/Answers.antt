use Rattle.std.proofs.KnownBytes.{Appends-nil}
use Rattle.replay.specs.Lines.{lines_of, told_in}
use Rattle.replay.proofs.StoppedLemmas.{stopped_none}
use Rattle.replay.proofs.replaying.replay_input.Goals as goal

pub returns-in-Err-clause-stopped : goal.returns-in-Err-clause-stopped
returns-in-Err-clause-stopped g c = stopped_none (told_in (lines_of c.args.input.now))
    (g.W.Sink.written c.args.writer.now) _

pub returns-in-Err-clause-nothing : goal.returns-in-Err-clause-nothing
returns-in-Err-clause-nothing g c = λ early. Appends-nil (g.W.Sink.written c.args.writer.now)
