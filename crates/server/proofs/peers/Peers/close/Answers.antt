use Rattle.std.proofs.Common.{◌≡◌, ◌≢◌, ℕ, None, refl, arith, sym, nat_cmp}
use Rattle.std.proofs.lemmas.Grind.{common_steps}
use Rattle.std.specs.BTreeMap.{get}
use Rattle.server.proofs.NumberLemmas.{connections_gone}
use Rattle.server.proofs.ServingLemmas.{serves_closed, serves_stand}
use Rattle.server.proofs.peers.Peers.close.Goals as goal

pub returns-in-Some : goal.returns-in-Some
returns-in-Some g c =
    let others : (k : ℕ) → k ≢ c.args.conn → get nat_cmp c.remove.new.self k ≡ get nat_cmp c.args.self.now.peers k =
    λ k ne. grind (arith, common_steps) in
    serves_closed g.S.Store.seen g.R.NowSource.left g.W.NowSink.written tt c.args.conn c.args.self.now _ _
    c.args.hub.now c.close.new.self (sym c.in-Some.ensures.value) c.remove.ensures.updates.1 others refl refl
    c.close.ensures.worlds c.close.ensures.connections c.close.ensures.store

pub returns-in_default : goal.returns-in_default
returns-in_default g c =
    let others : (k : ℕ) → k ≢ c.args.conn → get nat_cmp c.remove.new.self k ≡ get nat_cmp c.args.self.now.peers k =
    λ k ne. grind (arith, common_steps) in
    let was : get nat_cmp c.args.self.now.peers c.args.conn ≡ None = grind (arith, common_steps) in
    serves_stand g.S.Store.seen g.R.NowSource.left g.W.NowSink.written _ tt c.args.self.now _ c.args.hub.now refl
    (record {
      first = refl;
      next = refl;
      same = connections_gone c.args.self.now.first c.args.self.now.next c.args.self.now.peers c.remove.new.self
          c.args.conn was c.remove.ensures.updates.1 others;
    })
