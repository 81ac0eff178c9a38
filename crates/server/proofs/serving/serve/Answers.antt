use Rattle.std.proofs.Common.{Ok, refl, subst, ℕ}
use Rattle.hub.specs.Words.{Supplies-nil}
use Rattle.server.specs.Accepted.{LeavesBetween}
use Rattle.server.proofs.ServingLemmas.{all_served, none_served, seen_all, seen_between}
use Rattle.server.proofs.TurnLemmas.{ends_none}
use Rattle.server.proofs.serving.serve.Goals as goal

pub returns-in_default-clause-connections : goal.returns-in_default-clause-connections
returns-in_default-clause-connections g c =
    none_served g.L.Listener.may_accept g.S.Store.seen g.R.NowSource.left g.W.NowSink.written _
    c.args.listening.accepting.listener c.args.service.now.hub
    (Supplies-nil g.C.Clock.may_tell c.args.service.now.clock g.D.WordSource.may_give c.args.service.now.words)
    c.all_that_is_asked_keeps_the_laws.ensures

pub returns-in_default-clause-ends : goal.returns-in_default-clause-ends
returns-in_default-clause-ends g c =
    ends_none g.S.Store.seen (tt {0}) c.args.service.now.hub c.args.service.now.hub refl

pub returns-in_default-clause-others : goal.returns-in_default-clause-others
returns-in_default-clause-others g c = λ all each.
    seen_all g.L.Listener.may_accept g.S.Store.seen g.R.NowSource.left g.W.NowSink.written all c.args.service.now.hub
    each

pub returns-clause-connections : goal.returns-clause-connections
returns-clause-connections g c =
    all_served g.L.Listener.may_accept g.S.Store.seen g.R.NowSource.left g.W.NowSink.written _ c.rounds-served.result
    c.in-Some.first c.args.listening.accepting.listener c.begin.new.self.accepting.listener
    c.rounds-served.new.listening.accepting.listener c.begin.new.self.links.peers
    c.rounds-served.new.listening.links.peers c.finish.new.self.links.peers c.args.service.now.hub
    c.rounds-served.new.service.hub c.begin.ensures.listener c.begin.ensures.empty c.begin.ensures.next
    c.in-Some.ensures c.rounds-served.ensures c.finish.ensures c.all_that_is_asked_keeps_the_laws.ensures

pub returns-clause-ends : goal.returns-clause-ends
returns-clause-ends g c = c.rounds-served.ensures.2.ends

pub returns-clause-others : goal.returns-clause-others
returns-clause-others g c = λ all each.
    seen_between g.L.Listener.may_accept g.S.Store.seen g.R.NowSource.left g.W.NowSink.written c.in-Some.first
    c.rounds-served.new.listening.links.peers.next all c.rounds-served.new.service.hub (c.in-Some.ensures all each)
    (subst (λ (n : ℕ). LeavesBetween n c.rounds-served.new.listening.links.peers.next all
    c.rounds-served.new.service.hub) c.begin.ensures.first (c.rounds-served.ensures.2.others all each))
