use Rattle.std.proofs.Common.{◌≡◌, ◌≢◌, ℕ, Some, arith, sym, nat_cmp}
use Rattle.std.proofs.lemmas.Grind.{common_steps}
use Rattle.std.specs.BTreeMap.{get}
use Rattle.server.proofs.NumberLemmas.{connections_same, numbered_written}
use Rattle.server.proofs.peers.Peers.mark.Goals as goal

pub invariant_of-self : goal.invariant_of-self
invariant_of-self g c =
    let new = c.get_mut.follows.lender c.enters_queue.new.self in
    let there : get nat_cmp new c.args.conn ≡ Some c.enters_queue.new.self = grind (arith, common_steps) in
    let others : (k : ℕ) → k ≢ c.args.conn → get nat_cmp new k ≡ get nat_cmp c.args.self.now.peers k =
    λ k ne. grind (arith, common_steps) in
    record {
      ordered = c.args.self.now.ordered;
      numbered = numbered_written c.args.self.now.first c.args.self.now.next c.args.self.now.peers new c.args.conn
          c.in-Some.peer.now c.enters_queue.new.self c.args.self.now.numbered (sym c.in-Some.ensures.value) there others
          c.enters_queue.ensures.number;
    }
