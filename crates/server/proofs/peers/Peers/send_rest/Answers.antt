use Rattle.std.proofs.Common.{◌≡◌, ◌≢◌, ℕ, None, Some, ap, inr, option_map, refl, arith, sym, nat_cmp, []}
use Rattle.std.proofs.lemmas.Grind.{common_steps}
use Rattle.std.specs.BTreeMap.{get}
use Rattle.records.specs.Words.{All-nil}
use Rattle.hub.specs.Words.{IsStepOf}
use Rattle.server.specs.Numbers.{connection_at, connection_of}
use Rattle.server.proofs.AcceptedLemmas.{are_served_one, are_served_same}
use Rattle.server.proofs.NumberLemmas.{connections_gone}
use Rattle.server.proofs.peers.Peers.send_rest.Goals as goal

pub returns-in-Some : goal.returns-in-Some
returns-in-Some g c =
    let old = c.args.self.now in
    let others : (k : ℕ) → k ≢ c.args.conn → get nat_cmp c.remove.new.self k ≡ get nat_cmp old.peers k =
    λ k ne. grind (arith, common_steps) in
    are_served_one g.R.NowSource.left g.W.NowSink.written [] c.args.conn old.next old.next (connection_at old.peers)
    (connection_at c.remove.new.self) _ _ refl
    (ap (λ u. option_map connection_of u) (sym c.in-Some.ensures.value))
    (inr (ap (λ u. option_map connection_of u) c.remove.ensures.updates.1))
    (λ k ne. ap (λ u. option_map connection_of u) (others k ne)) (All-nil (IsStepOf c.args.conn))
    c.send_rest.ensures.1

pub returns-in_default : goal.returns-in_default
returns-in_default g c =
    let old = c.args.self.now in
    let others : (k : ℕ) → k ≢ c.args.conn → get nat_cmp c.remove.new.self k ≡ get nat_cmp old.peers k =
    λ k ne. grind (arith, common_steps) in
    let was : get nat_cmp old.peers c.args.conn ≡ None = grind (arith, common_steps) in
    are_served_same g.R.NowSource.left g.W.NowSink.written old.next old.next (connection_at old.peers)
    (connection_at c.remove.new.self) refl
    (connections_gone old.first old.next old.peers c.remove.new.self c.args.conn was c.remove.ensures.updates.1 others)
