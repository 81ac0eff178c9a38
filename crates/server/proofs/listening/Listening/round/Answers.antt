use Rattle.std.proofs.Common.{◌≡◌, ◌∙◌, List, [], Ok, Err, ap, inl, refl}
use Rattle.records.specs.Words.{err_from_is_err_and}
use Rattle.hub.specs.Words.{Supplies}
use Rattle.hub.specs.declared.event.Event.{Event}
use Rattle.server.specs.Serving.{ServesAt}
use Rattle.server.proofs.ServingLemmas.{at_on, at_peers, calm_on, joins_none, none_joins, serves_accepted, serves_same}
use Rattle.server.proofs.ServingLemmas.{serves_stand}
use Rattle.server.proofs.listening.Listening.round.Goals as goal

pub returns-in_err-take_turns : goal.returns-in_err-take_turns
returns-in_err-take_turns g c =
    let seen = g.S.Store.seen in
    let left = g.R.NowSource.left in
    let written = g.W.NowSink.written in
    let may = g.L.Listener.may_accept in
    let X = λ (events : List Event). events ≡ [] in
    let l0 = c.args.self.now.accepting.listener in
    let l1 = c.await_events.new.self.accepting.listener in
    let l2 = c.stop_if_asked.new.self.accepting.listener in
    let l3 = c.make_room.new.self.accepting.listener in
    let l4 = c.accept.new.self.listener in
    let p0 = c.args.self.now.links.peers in
    let p1 = c.await_events.new.self.links.peers in
    let p2 = c.stop_if_asked.new.self.links.peers in
    let p3 = c.make_room.new.self.links.peers in
    let p4 = c.accept.new.links.peers in
    let h0 = c.args.service.now.hub in
    let h1 = c.make_room.new.hub in
    let one = at_peers may seen left written X (Ok (tt {0})) l0 l1 p0 p1 h0 h0 (inl c.await_events.ensures.listener)
    (serves_stand seen left written X (tt {0}) p0 p1 h0 refl c.await_events.ensures.peers) in
    let two = at_peers may seen left written X (Ok (tt {0})) l1 l2 p1 p2 h0 h0 c.stop_if_asked.ensures.listener
    (serves_same seen left written X (tt {0}) p1 p2 h0 refl c.stop_if_asked.ensures.peers) in
    let three = at_peers may seen left written X (Ok (tt {0})) l2 l3 p2 p3 h0 h1 (inl c.make_room.ensures.listener)
    c.make_room.ensures.peers in
    let a = c.accept.ensures.accepted in
    let four : ServesAt may seen left written X (Ok (tt {0})) l3 l4 p3 p4 h1 h1 =
    (a.0, a.1, serves_accepted seen left written X a.0 (tt {0}) p3 p4 h1 refl c.accept.ensures.first a.2) in
    let calm = calm_on may seen left written (tt {0}) (Ok (tt {0})) l0 l3 l4 p0 p3 p4 h0 h1 h1
    (calm_on may seen left written (tt {0}) (Ok (tt {0})) l0 l2 l3 p0 p2 p3 h0 h0 h1
    (calm_on may seen left written (tt {0}) (Ok (tt {0})) l0 l1 l2 p0 p1 p2 h0 h0 h0 one two) three) four in
    let s0 = c.args.service.now in
    let s1 = c.take_turns.new.service in
    let Y = Supplies g.C.Clock.may_tell s0.clock s1.clock g.D.WordSource.may_give s0.words s1.words in
    let l5 = c.take_turns.new.self.accepting.listener in
    let p5 = c.take_turns.new.self.links.peers in
    let p = err_from_is_err_and c.from_residual.result c.from_residual.ensures.1 in
    rw (p.1 ∙ ap Err p.2)
    (at_on may seen left written X Y Y (tt {0}) (Err c.in_err-take_turns.field-0.0) l0 l4 l5 p0 p4 p5 h0 h1 s1.hub
    (none_joins Y) calm
    (at_peers may seen left written Y (Err c.in_err-take_turns.field-0.0) l4 l5 p4 p5 h1 s1.hub
    (inl c.take_turns.ensures.listener) c.in_err-take_turns.ensures.peers))

pub returns : goal.returns
returns g c =
    let seen = g.S.Store.seen in
    let left = g.R.NowSource.left in
    let written = g.W.NowSink.written in
    let may = g.L.Listener.may_accept in
    let X = λ (events : List Event). events ≡ [] in
    let l0 = c.args.self.now.accepting.listener in
    let l1 = c.await_events.new.self.accepting.listener in
    let l2 = c.stop_if_asked.new.self.accepting.listener in
    let l3 = c.make_room.new.self.accepting.listener in
    let l4 = c.accept.new.self.listener in
    let p0 = c.args.self.now.links.peers in
    let p1 = c.await_events.new.self.links.peers in
    let p2 = c.stop_if_asked.new.self.links.peers in
    let p3 = c.make_room.new.self.links.peers in
    let p4 = c.accept.new.links.peers in
    let h0 = c.args.service.now.hub in
    let h1 = c.make_room.new.hub in
    let one = at_peers may seen left written X (Ok (tt {0})) l0 l1 p0 p1 h0 h0 (inl c.await_events.ensures.listener)
    (serves_stand seen left written X (tt {0}) p0 p1 h0 refl c.await_events.ensures.peers) in
    let two = at_peers may seen left written X (Ok (tt {0})) l1 l2 p1 p2 h0 h0 c.stop_if_asked.ensures.listener
    (serves_same seen left written X (tt {0}) p1 p2 h0 refl c.stop_if_asked.ensures.peers) in
    let three = at_peers may seen left written X (Ok (tt {0})) l2 l3 p2 p3 h0 h1 (inl c.make_room.ensures.listener)
    c.make_room.ensures.peers in
    let a = c.accept.ensures.accepted in
    let four : ServesAt may seen left written X (Ok (tt {0})) l3 l4 p3 p4 h1 h1 =
    (a.0, a.1, serves_accepted seen left written X a.0 (tt {0}) p3 p4 h1 refl c.accept.ensures.first a.2) in
    let calm = calm_on may seen left written (tt {0}) (Ok (tt {0})) l0 l3 l4 p0 p3 p4 h0 h1 h1
    (calm_on may seen left written (tt {0}) (Ok (tt {0})) l0 l2 l3 p0 p2 p3 h0 h0 h1
    (calm_on may seen left written (tt {0}) (Ok (tt {0})) l0 l1 l2 p0 p1 p2 h0 h0 h0 one two) three) four in
    let s0 = c.args.service.now in
    let s1 = c.take_turns.new.service in
    let Y = Supplies g.C.Clock.may_tell s0.clock s1.clock g.D.WordSource.may_give s0.words s1.words in
    let l5 = c.take_turns.new.self.accepting.listener in
    let p5 = c.take_turns.new.self.links.peers in
    let l6 = c.look.new.self.accepting.listener in
    let p6 = c.look.new.self.links.peers in
    let l7 = c.look_at_operators.new.self.accepting.listener in
    let p7 = c.look_at_operators.new.self.links.peers in
    let h3 = c.look.new.hub in
    let turned = at_on may seen left written X Y Y (tt {0}) (Ok (tt {0})) l0 l4 l5 p0 p4 p5 h0 h1 s1.hub
    (none_joins Y) calm
    (at_peers may seen left written Y (Ok (tt {0})) l4 l5 p4 p5 h1 s1.hub
    (inl c.take_turns.ensures.listener) c.in_ok-take_turns.ensures.peers) in
    let looked = at_peers may seen left written X (Ok (tt {0})) l5 l6 p5 p6 s1.hub h3 (inl c.look.ensures.listener)
    c.look.ensures.peers in
    let told = at_peers may seen left written X (Ok (tt {0})) l6 l7 p6 p7 h3 h3
    (inl c.look_at_operators.ensures.listener)
    (serves_same seen left written X (tt {0}) p6 p7 h3 refl c.look_at_operators.ensures.peers) in
    at_on may seen left written Y X Y (tt {0}) (Ok (tt {0})) l0 l5 l7 p0 p5 p7 h0 s1.hub h3 (joins_none Y) turned
    (calm_on may seen left written (tt {0}) (Ok (tt {0})) l5 l6 l7 p5 p6 p7 s1.hub h3 h3 looked told)
