use Rattle.records.specs.Words.{⊤, Some, Err, slice_index, sym, ap, subst, inl, inr, first_broker}
use Rattle.std.proofs.KnownBytes.{Appends-nil}
use Rattle.replay.specs.Exits.{EndsBy, HasEqualWords}
use Rattle.replay.specs.Replays.{started, told}
use Rattle.replay.proofs.ExitLemmas.{ends_by_start, ends_weaker, no_early_end}
use Rattle.replay.proofs.StoppedLemmas.{stopped_from, stopped_none}
use Rattle.replay.proofs.replaying.run_new.Goals as goal

pub returns-in-Err-clause-stopped : goal.returns-in-Err-clause-stopped
returns-in-Err-clause-stopped g c always =
    stopped_none (Some (told c.args.script.now)) (g.W.Sink.written c.args.writer.now) c.from.result

pub returns-in-Err-clause-ends : goal.returns-in-Err-clause-ends
returns-in-Err-clause-ends g c always empty =
    let honest = always c.start.new.self in
    subst (EndsBy (HasEqualWords (Some (told c.args.script.now))) ⊤ (g.W.Sink.has_failed c.args.writer.now))
    (sym c.from.ensures)
    (ends_by_start c.in-Err.fault (HasEqualWords (Some (told c.args.script.now)))
    (g.W.Sink.has_failed c.args.writer.now)
    c.in-Err.ensures.faults
    (λ bad. elim (c.in-Err.ensures.bad_start honest (ap Err bad)) [
      | inl rows ↦ absurd (rows empty)
      | inr equal ↦ equal
    ]))

pub returns-clause-ran : goal.returns-clause-ran
returns-clause-ran g c always unfaulted =
    let start = c.args.script.now.start in
    let b = first_broker start.moment (slice_index start.words.0 1) (slice_index start.words.0 2) in
    c.run_script.ensures.ran (always c.run_script.new.hub.store) (started start)
    (c.new.ensures.represents b (c.in_default.ensures.told (always c.start.new.self))) unfaulted

pub returns-clause-ends : goal.returns-clause-ends
returns-clause-ends g c always empty =
    let start = c.args.script.now.start in
    let b = first_broker start.moment (slice_index start.words.0 1) (slice_index start.words.0 2) in
    ends_weaker _ _ _ _ (g.W.Sink.has_failed c.run_script.new.writer) c.run_script.result (λ none. absurd none)
    (λ failed. tt)
    (c.run_script.ensures.ends (always c.run_script.new.hub.store) (started start)
    (c.new.ensures.represents b (c.in_default.ensures.told (always c.start.new.self))))

pub returns-clause-stopped : goal.returns-clause-stopped
returns-clause-stopped g c always =
    let start = c.args.script.now.start in
    let b = first_broker start.moment (slice_index start.words.0 1) (slice_index start.words.0 2) in
    let honest = always c.run_script.new.hub.store in
    let represents = c.new.ensures.represents b
    (c.in_default.ensures.told (always c.start.new.self)) in
    stopped_from _ (started start) c.args.script.now.events.items c.new.result c.run_script.new.hub
    (g.W.Sink.written c.args.writer.now)
    (g.W.Sink.written c.run_script.new.writer) c.run_script.result honest represents c.run_script.ensures.stopped

-- ---- faults before the first event

pub returns-in-Err-clause-nothing : goal.returns-in-Err-clause-nothing
returns-in-Err-clause-nothing g c = λ always early. Appends-nil (g.W.Sink.written c.args.writer.now)

pub returns-clause-nothing : goal.returns-clause-nothing
returns-clause-nothing g c = λ always early.
    let start = c.args.script.now.start in
    let b = first_broker start.moment (slice_index start.words.0 1) (slice_index start.words.0 2) in
    let ends = c.run_script.ensures.ends (always c.run_script.new.hub.store) (started start)
    (c.new.ensures.represents b (c.in_default.ensures.told (always c.start.new.self))) in
    absurd (no_early_end _ (g.W.Sink.has_failed c.run_script.new.writer) c.run_script.result ends early)
