use Rattle.std.proofs.KnownBytes.{Appends-nil}
use Rattle.replay.specs.Lines.{lines_of, told_in}
use Rattle.replay.proofs.StoppedLemmas.{stopped_none}
use Rattle.replay.proofs.replaying.replay.Goals as goal

pub returns-in-Err-Memory-clause-stopped : goal.returns-in-Err-Memory-clause-stopped
returns-in-Err-Memory-clause-stopped g c =
    λ input left. stopped_none (told_in (lines_of input)) (g.W.Sink.written c.args.writer.now) _

pub returns-in-Err-Failed-clause-stopped : goal.returns-in-Err-Failed-clause-stopped
returns-in-Err-Failed-clause-stopped g c =
    λ input left. stopped_none (told_in (lines_of input)) (g.W.Sink.written c.args.writer.now) _

pub returns-in-Err-Memory-clause-nothing : goal.returns-in-Err-Memory-clause-nothing
returns-in-Err-Memory-clause-nothing g c = λ early. Appends-nil (g.W.Sink.written c.args.writer.now)

pub returns-in-Err-Failed-clause-nothing : goal.returns-in-Err-Failed-clause-nothing
returns-in-Err-Failed-clause-nothing g c = λ early. Appends-nil (g.W.Sink.written c.args.writer.now)
