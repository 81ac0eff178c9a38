use Rattle.std.proofs.Common.{inl, refl, rules, []}
use Rattle.server.proofs.ServingLemmas.{accepted_none, hands_none, hands_one, hands_then}
use Rattle.server.proofs.accepting.Accepting.accept_one.Goals as goal

pub returns-in_default-clause-accepted : goal.returns-in_default-clause-accepted
returns-in_default-clause-accepted g c = (
  [],
  hands_none g.L.Listener.may_accept c.args.self.now.listener _ (inl refl),
  accepted_none g.R.NowSource.left g.W.NowSink.written c.args.links.now.peers,
)

pub returns-clause-accepted : goal.returns-clause-accepted
returns-clause-accepted g c =
    let a = c.accept-accepted.ensures.accepted in (
      a.0,
      hands_then g.L.Listener.may_accept c.args.self.now.listener c.shut_if_done.new.self.listener
          c.ask_if_full.new.self.listener a.0
          (hands_then g.L.Listener.may_accept c.args.self.now.listener c.note.new.self.listener
          c.shut_if_done.new.self.listener a.0
          (hands_one g.L.Listener.may_accept c.args.self.now.listener c.note.new.self.listener _ _ a.0
          (search rules) (search rules) a.1)
          c.shut_if_done.ensures) (inl c.ask_if_full.ensures),
      a.2,
    )
