use Rattle.broker_model.specs.Words.{refl, rules, sym}
use Rattle.hub.proofs.TurnLemmas.{took_turn, answered_within}
use Rattle.hub.proofs.connection.Connection.feed.Goals as goal

pub settled-requires : goal.settled-requires
settled-requires g c =
    let s = c.in_ok-served.ensures.serves in
    answered_within s.front _ c.in_ok-served.served.len s.is_front s.len

pub returns : goal.returns
returns g c =
    let e = c.settled.ensures in
    record {
      turn = λ h represents is_open.
          took_turn (g.S.Store.seen c.args.store.now)
          (g.S.Store.seen c.serve_front.new.store) h c.args.piece.now c.args.moment c.args.words.now
          c.in_ok-served.served c.in-Open.unanswered _ c.args.self.now c.settled.result
          (sym c.in-Open.ensures.value) represents is_open
          c.in_ok-append.ensures.ok c.in_ok-served.ensures.serves
          (record { closed = e.closed; same = e.same; more = e.more });
      listed = c.in_ok-served.ensures.listed;
      closed = tt;
      succeeds = λ nothing rest waits front. refl;
      keeps = search rules;
    }
