use Rattle.std.proofs.Common.{◌≡◌, ◌≢◌, ℕ, Some, refl, arith, rules, sym, nat_cmp}
use Rattle.std.proofs.lemmas.Grind.{common_steps}
use Rattle.std.specs.BTreeMap.{get}
use Rattle.hub.specs.Words.{Supplies-nil}
use Rattle.server.proofs.NumberLemmas.{numbered_written}
use Rattle.server.proofs.ServingLemmas.{serves_one, serves_stand}
use Rattle.server.proofs.peers.Peers.turn.Goals as goal

pub invariant_of-self : goal.invariant_of-self
invariant_of-self g c =
    let new = c.get_mut.follows.lender c.turn.new.self in
    let there : get nat_cmp new c.args.conn ≡ Some c.turn.new.self = grind (arith, common_steps) in
    let others : (k : ℕ) → k ≢ c.args.conn → get nat_cmp new k ≡ get nat_cmp c.args.self.now.peers k =
    λ k ne. grind (arith, common_steps) in
    record {
      ordered = c.args.self.now.ordered;
      numbered = numbered_written c.args.self.now.first c.args.self.now.next c.args.self.now.peers new c.args.conn
          c.in-Some.peer.now c.turn.new.self c.args.self.now.numbered (sym c.in-Some.ensures.value) there others
          c.turn.ensures.same;
    }

pub returns-in-Some : goal.returns-in-Some
returns-in-Some g c =
    let new = c.get_mut.follows.lender c.turn.new.self in
    let there : get nat_cmp new c.args.conn ≡ Some c.turn.new.self = grind (arith, common_steps) in
    let others : (k : ℕ) → k ≢ c.args.conn → get nat_cmp new k ≡ get nat_cmp c.args.self.now.peers k =
    λ k ne. grind (arith, common_steps) in
    serves_one g.S.Store.seen g.R.NowSource.left g.W.NowSink.written _ c.turn.result c.args.conn c.args.self.now _
    c.in-Some.peer.now c.turn.new.self c.args.service.now.hub c.turn.new.service.hub (sym c.in-Some.ensures.value) there
    others refl refl c.turn.ensures

pub returns-in-None : goal.returns-in-None
returns-in-None g c =
    serves_stand g.S.Store.seen g.R.NowSource.left g.W.NowSink.written _ _ c.args.self.now _ c.args.service.now.hub
    (Supplies-nil g.C.Clock.may_tell c.args.service.now.clock g.D.WordSource.may_give c.args.service.now.words)
    (search rules)
