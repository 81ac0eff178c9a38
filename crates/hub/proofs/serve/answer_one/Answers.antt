use Rattle.std.proofs.Common.{◌≡◌, ◌≢◌, ◌∙◌, ℕ, true, false, Err, List, [], length, nat_eq, sym, ap, append-nil, subst}
use Rattle.broker_model.specs.Words.{arith, Appends, false≢true, nat_tests, nil_from_length, err_from_is_err_and}
use Rattle.broker_model.specs.Words.{Appends-nil}
use Rattle.hub.specs.Words.{hub_connections, Supplies-one}
use Rattle.hub.proofs.EndingLemmas.{answered_silent}
use Rattle.hub.proofs.KeepsLemmas.{failed_now}
use Rattle.hub.proofs.ServedLemmas.{serves_feeding, serves_one, serves_writing}
use Rattle.hub.proofs.ServingLemmas.{event_of}
use Rattle.hub.proofs.WaitingLemmas.{standing_all, standing_each, waiting_falls}
use Rattle.hub.proofs.serve.answer_one.Goals as goal

nothing_of : (bytes : List ℕ) (len : ℕ) → length bytes ≡ len → nat_eq len 0 ≡ true → bytes ≡ []
nothing_of bytes len is e = let zero : length bytes ≡ 0 = grind (arith, nat_tests) in nil_from_length bytes zero

something_of : (bytes : List ℕ) (len : ℕ) → length bytes ≡ len → nat_eq len 0 ≡ false → bytes ≢ []
something_of bytes len is e nothing = let zero : length bytes ≡ 0 = ap length nothing in grind (arith, nat_tests)

-- ---- the event had a fault

pub returns-in_err-bytes-clause-served : goal.returns-in_err-bytes-clause-served
returns-in_err-bytes-clause-served g c =
    let p = err_from_is_err_and c.from_residual.result c.from_residual.ensures.1 in
    let fed = c.in_err-bytes.ensures in
    rw (p.1 ∙ ap Err p.2)
    (serves_feeding g.S.Store.seen c.args.conn c.args.piece.now c.now-moment.result c.words-drawn.result _ _ _ _
    c.in_err-bytes.field-0.0
    c.args.hub.now c.feed.new.self c.requires fed.keeps fed.connections (Appends-nil _)
    (Supplies-one g.C.Clock.may_tell c.args.clock.now c.now-moment.new.self g.D.WordSource.may_give c.args.words.now
    c.words-drawn.new.self
    (event_of c.args.conn c.args.piece.now c.now-moment.result c.words-drawn.result) c.now-moment.ensures
    c.words-drawn.ensures))

-- ---- there was no reply

pub returns-then-is_empty-clause-served : goal.returns-then-is_empty-clause-served
returns-then-is_empty-clause-served g c =
    let nothing = nothing_of c.in_ok-bytes.bytes.items _ (let ok = c.in_ok-bytes.bytes.ok in omega (arith, ok))
    (sym c.is_empty.ensures ∙ c.if-is_empty.true) in
    let known = g.W.Sink.written c.args.writer.now in
    let fed = c.in_ok-bytes.ensures in
    serves_one g.S.Store.seen c.args.conn c.args.piece.now c.now-moment.result c.words-drawn.result c.in_ok-bytes.bytes
    _ _ _ _ _
    c.args.hub.now c.feed.new.self (record {
      short = c.requires;
      answers = fed.ok;
      gives = fed.connections;
      listed = fed.listed;
      keeps = fed.keeps;
    })
    (subst (Appends known known) (sym (append-nil c.in_ok-bytes.bytes.items ∙ nothing)) (Appends-nil known))
    (Supplies-one g.C.Clock.may_tell c.args.clock.now c.now-moment.new.self g.D.WordSource.may_give c.args.words.now
    c.words-drawn.new.self
    (event_of c.args.conn c.args.piece.now c.now-moment.result c.words-drawn.result) c.now-moment.ensures
    c.words-drawn.ensures)

pub returns-then-is_empty-clause-answered : goal.returns-then-is_empty-clause-answered
returns-then-is_empty-clause-answered g c = λ last.
    let nothing = nothing_of c.in_ok-bytes.bytes.items _ (let ok = c.in_ok-bytes.bytes.ok in omega (arith, ok))
    (sym c.is_empty.ensures ∙ c.if-is_empty.true) in
    answered_silent c.args.conn c.args.piece.now c.now-moment.result c.in_ok-bytes.bytes.items c.args.hub.now
    c.feed.new.self
    c.in_ok-bytes.ensures.connections nothing

-- ---- the reply was written

pub returns-in-Ok-clause-served : goal.returns-in-Ok-clause-served
returns-in-Ok-clause-served g c =
    let written = subst (Appends (g.W.Sink.written c.args.writer.now) (g.W.Sink.written c.push.new.self))
    c.as_slice.ensures.value c.in-Ok.ensures.ok in
    let fed = c.in_ok-bytes.ensures in
    serves_one g.S.Store.seen c.args.conn c.args.piece.now c.now-moment.result c.words-drawn.result c.in_ok-bytes.bytes
    _ _ _ _ _
    c.args.hub.now c.feed.new.self (record {
      short = c.requires;
      answers = fed.ok;
      gives = fed.connections;
      listed = fed.listed;
      keeps = fed.keeps;
    })
    (subst (Appends (g.W.Sink.written c.args.writer.now) (g.W.Sink.written c.push.new.self))
    (sym (append-nil c.in_ok-bytes.bytes.items)) written)
    (Supplies-one g.C.Clock.may_tell c.args.clock.now c.now-moment.new.self g.D.WordSource.may_give c.args.words.now
    c.words-drawn.new.self
    (event_of c.args.conn c.args.piece.now c.now-moment.result c.words-drawn.result) c.now-moment.ensures
    c.words-drawn.ensures)

pub returns-in-Ok-clause-answered : goal.returns-in-Ok-clause-answered
returns-in-Ok-clause-answered g c = λ last. absurd (false≢true (sym last))

pub returns-in-Ok-clause-falls : goal.returns-in-Ok-clause-falls
returns-in-Ok-clause-falls g c = λ nothing _.
    let kept = hub_connections c.args.hub.now in
    let next = c.in_ok-bytes.ensures.connections (standing_all kept) (standing_each kept) in
    waiting_falls kept (hub_connections c.feed.new.self) c.args.conn c.now-moment.result c.args.piece.now
    c.in_ok-bytes.bytes.items next.0 nothing
    (something_of c.in_ok-bytes.bytes.items _ (let ok = c.in_ok-bytes.bytes.ok in omega (arith, ok))
    (sym c.is_empty.ensures ∙ c.if-is_empty.false)) next.1 next.2

-- ---- the reply could not be written

pub returns-clause-served : goal.returns-clause-served
returns-clause-served g c =
    let fed = c.in_ok-bytes.ensures in
    serves_writing g.S.Store.seen c.args.conn c.args.piece.now c.now-moment.result c.words-drawn.result
    c.in_ok-bytes.bytes _ _ _ _
    c.args.hub.now c.feed.new.self c.close.new.self
    (failed_now (g.W.Sink.has_failed c.args.writer.now) _ c.in-Err.ensures.failing)
    (record { short = c.requires; answers = fed.ok; gives = fed.connections; listed = fed.listed; keeps = fed.keeps })
    (record { store = c.close.ensures.store; connections = c.close.ensures.connections })
    (Supplies-one g.C.Clock.may_tell c.args.clock.now c.now-moment.new.self g.D.WordSource.may_give c.args.words.now
    c.words-drawn.new.self
    (event_of c.args.conn c.args.piece.now c.now-moment.result c.words-drawn.result) c.now-moment.ensures
    c.words-drawn.ensures)
