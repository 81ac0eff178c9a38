use Rattle.std.proofs.Common.{◌≡◌, ◌⊎◌, inl, inr, List, ℕ, Vec, Global, refl, subst}
use Rattle.records.specs.Words.{Appends, concat, fault_number}
use Rattle.hub.specs.Words.{Run, bytes_of}
use Rattle.hub.specs.declared.event.Event.{Event}
use Rattle.replay.specs.Replays.{IsUnfaulted, StopsRun}
use Rattle.replay.specs.declared.replaying.Exit.{Exit}
use Rattle.replay.specs.declared.replaying.Exit.TheVariants.{Faulted}
use Rattle.replay.proofs.StoppedLemmas.{stopped_of}
use Rattle.replay.proofs.replaying.run_script.Goals as goal

-- where nothing failed the replies were written
written_of : (x exit : Exit) (A B : Type 0) → ((x ≡ exit) × A) ⊎ ((x ≡ Faulted 6) × B) → IsUnfaulted x → A
written_of x exit A B (inl p) unfaulted = p.1
written_of x exit A B (inr p) unfaulted = absurd (subst IsUnfaulted p.0 unfaulted)

pub returns-in-Ok-clause-ran : goal.returns-in-Ok-clause-ran
returns-in-Ok-clause-ran g c = λ honest w is unfaulted.
    let a = c.in-Ok.ensures.replies honest w is in
    let old = g.W.Sink.written c.args.writer.now in
    let new = g.W.Sink.written c.finish.new.writer in
    let pushed = written_of c.finish.result c.exit.result _ _ c.finish.ensures unfaulted in
    record {
      replies = bytes_of c.in-Ok.replies.items;
      after = a.after;
      run = subst (λ (events : List Event). Run w events (bytes_of c.in-Ok.replies.items) a.after)
          c.as_slice.ensures.value a.run;
      written = subst (λ (replies : List (Vec ℕ Global)). Appends old new (concat (bytes_of replies)))
          c.as_slice-in-Ok.ensures.value pushed;
    }

pub returns-in-Err-clause-stopped : goal.returns-in-Err-clause-stopped
returns-in-Err-clause-stopped g c =
    let seen = g.S.Store.seen in
    let before = c.args.hub.now in
    let after = c.run.new.hub in
    let old = g.W.Sink.written c.args.writer.now in
    let new = g.W.Sink.written c.finish-in-Err.new.writer in
    let number = fault_number c.in-Err.fault in
    stopped_of seen c.args.script.now.events.items before after old new c.finish-in-Err.result c.from.result number _ _
    c.finish-in-Err.ensures c.from.ensures
    (λ written. subst (λ (events : List Event). StopsRun seen events before after old new number)
    c.as_slice.ensures.value
    (record {
      place = c.in-Err.field-0-0;
      replies = c.in-Err.replies.items;
      fault = c.in-Err.fault;
      number_is = refl;
      written = subst (λ (rs : List (Vec ℕ Global)). Appends old new (concat (bytes_of rs)))
          c.as_slice-in-Err.ensures.value written;
      run = c.in-Err.ensures.before;
      stopped = c.in-Err.ensures.stopped;
      turns = c.in-Err.ensures.connections;
    }))
