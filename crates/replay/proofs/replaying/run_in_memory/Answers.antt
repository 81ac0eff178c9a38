use Rattle.records.specs.Words.{Some, refl}
use Rattle.std.proofs.KnownBytes.{Appends-nil}
use Rattle.broker_sql.specs.HonestLaws.{always_honest}
use Rattle.replay.specs.Replays.{told}
use Rattle.replay.proofs.StoppedLemmas.{stopped_none}
use Rattle.replay.proofs.replaying.run_in_memory.Goals as goal

-- memory returns what was written
pub returns-in-Ok-clause-ends : goal.returns-in-Ok-clause-ends
returns-in-Ok-clause-ends g c = c.run_new.ensures.ends (always_honest (λ _. refl)) c.in-Ok.ensures.rows

pub returns-in-Ok-clause-ran : goal.returns-in-Ok-clause-ran
returns-in-Ok-clause-ran g c = c.run_new.ensures.ran (always_honest (λ _. refl))

pub returns-in-Ok-clause-stopped : goal.returns-in-Ok-clause-stopped
returns-in-Ok-clause-stopped g c = c.run_new.ensures.stopped (always_honest (λ _. refl))

pub returns-in-Ok-clause-nothing : goal.returns-in-Ok-clause-nothing
returns-in-Ok-clause-nothing g c = c.run_new.ensures.nothing (always_honest (λ _. refl))

pub returns-in-Err-clause-stopped : goal.returns-in-Err-clause-stopped
returns-in-Err-clause-stopped g c = stopped_none (Some (told c.args.script.now))
    (g.W.Sink.written c.args.writer.now) c.from.result

pub returns-in-Err-clause-nothing : goal.returns-in-Err-clause-nothing
returns-in-Err-clause-nothing g c = λ early. Appends-nil (g.W.Sink.written c.args.writer.now)
