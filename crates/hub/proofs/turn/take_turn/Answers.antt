use Rattle.std.proofs.Common.{◌≡◌, ◌∙◌, ℕ, inl, refl, sym, subst, arith}
use Rattle.broker_model.specs.Words.{false≢true, Consumes-nil}
use Rattle.hub.specs.Words.{number_of, unsent, ConnectionsRepresent, HasEnded, IsAnswered, Supplies-nil, Hub, Write}
use Rattle.hub.specs.Words.{NeedsRoom}
use Rattle.hub.proofs.ServedLemmas.{serves_closing, serves_none}
use Rattle.hub.proofs.ServingLemmas.{ended_at}
use Rattle.hub.proofs.TakingLemmas.{passes_nothing, said_sending, turns_err, turns_ok, turns_so}
use Rattle.hub.proofs.turn.take_turn.Goals as goal

-- ---- what was not sent

pub returns-in-Ok-clause-took : goal.returns-in-Ok-clause-took
returns-in-Ok-clause-took g c =
    let link = c.args.link.now in
    turns_ok link c.send_rest.new.link (number_of link) refl c.send_rest.ensures.same
    (serves_none g.S.Store.seen (number_of link) _ _ _ _ _ _ c.args.hub.now (Consumes-nil _) c.send_rest.ensures.sent
    (Supplies-nil g.C.Clock.may_tell c.args.clock.now g.D.WordSource.may_give c.args.words.now))
    (omega arith)
    (said_sending c.in-Ok.turn (unsent link) (unsent c.send_rest.new.link) c.in-Ok.ensures.turns)

pub returns-in-Ok-clause-room : goal.returns-in-Ok-clause-room
returns-in-Ok-clause-room g c = λ is nothing.
    let turn : c.in-Ok.turn ≡ NeedsRoom = cc is in
    false≢true (sym (c.is_sending.ensures.some (sym (c.in-Ok.ensures.room turn) ∙ nothing)) ∙ c.if-is_sending.true)

pub returns-in-Err-clause-took : goal.returns-in-Err-clause-took
returns-in-Err-clause-took g c =
    turns_err c.args.link.now c.send_rest.new.link c.conn.result
    (c.conn.ensures ∙ c.send_rest.ensures.same) c.send_rest.ensures.same
    (serves_closing g.S.Store.seen c.conn.result _ _ _ _ _ Write c.args.hub.now c.close.new.self refl
    (λ is. cc is) (λ is. c.in-Err.ensures.turns) (Consumes-nil _) c.send_rest.ensures.sent
    (Supplies-nil g.C.Clock.may_tell c.args.clock.now g.D.WordSource.may_give c.args.words.now)
    (record { store = c.close.ensures.store; connections = c.close.ensures.connections }))
    (omega arith) c.send_rest.ensures.sent

-- ---- the connection is closed

pub returns-then-is_closed-clause-took : goal.returns-then-is_closed-clause-took
returns-then-is_closed-clause-took g c =
    let link = c.args.link.now in
    turns_ok link link (number_of link) refl refl
    (serves_none g.S.Store.seen (number_of link) _ _ _ _ _ _ c.args.hub.now (Consumes-nil _)
    (passes_nothing (g.W.NowSink.written c.args.writer.now) (unsent link) (unsent link) refl)
    (Supplies-nil g.C.Clock.may_tell c.args.clock.now g.D.WordSource.may_give c.args.words.now))
    (omega arith) refl

pub returns-then-is_closed-clause-ended : goal.returns-then-is_closed-clause-ended
returns-then-is_closed-clause-ended g c = λ is. (
  c.is_sending.ensures.none c.if-is_sending.false,
  λ all each.
      subst (λ (k : ℕ). HasEnded (g.R.NowSource.left c.args.reader.now) all k) c.conn-2.ensures
      (inl (sym (c.is_closed.ensures all each) ∙ c.if-is_closed.true)),
)

-- ---- a request waits

pub returns-then-has_request-clause-took : goal.returns-then-has_request-clause-took
returns-then-has_request-clause-took g c =
    turns_so (Consumes-nil (g.R.NowSource.left c.args.reader.now)) c.feed_piece.ensures.took

-- ---- a piece is read

pub returns-clause-needs : goal.returns-clause-needs
returns-clause-needs g c = λ is.
    let n = c.read_piece.ensures.needs is in (
      n.0,
      λ all each.
          subst (λ (k : ℕ). IsAnswered all k) (c.conn-3.ensures ∙ sym c.read_piece.ensures.took.same)
          (c.has_request.ensures.answered c.if-has_request.false all
          (subst (λ (h : Hub _). ConnectionsRepresent h all) n.1 each)),
    )

pub returns-clause-ended : goal.returns-clause-ended
returns-clause-ended g c = λ is.
    let n = c.read_piece.ensures.ended is in (
      n.0,
      λ all each.
          ended_at (g.R.NowSource.left c.read_piece.new.reader) all (number_of c.read_piece.new.link) n.2
          (subst (λ (k : ℕ). IsAnswered all k) (c.conn-3.ensures ∙ sym c.read_piece.ensures.took.same)
          (c.has_request.ensures.answered c.if-has_request.false all
          (subst (λ (h : Hub _). ConnectionsRepresent h all) n.1 each))),
    )
