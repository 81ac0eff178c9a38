use Rattle.std.proofs.Common.{◌+◌, arith, refl}
use Rattle.server.proofs.NumberLemmas.{numbered_opened}
use Rattle.server.proofs.peers.Peers.open.Goals as goal

pub invariant_of-self : goal.invariant_of-self
invariant_of-self g c =
    let le = c.args.self.now.ordered in
    record {
      ordered = omega (arith, le);
      numbered = numbered_opened c.args.self.now.first c.args.self.now.next (c.args.self.now.next + 1)
          c.args.self.now.peers c.insert.new.peers c.args.peer c.args.self.now.numbered le refl c.insert.ensures.here
          c.insert.ensures.others c.requires.number;
    }
