use Rattle.broker_model.specs.Words.{ℕ}
use Rattle.std.proofs.Common.{nat_cmp}
use Rattle.std.specs.BTreeMap.{get}
use Rattle.hub.specs.Words.{Feeds, Connection}
use Rattle.hub.proofs.EntryLemmas.{fed_here, fed_others}
use Rattle.hub.proofs.hub.Hub.feed_open.Goals as goal

pub returns-clause-fed : goal.returns-clause-fed
returns-clause-fed g c =
    let seen = g.S.Store.seen in
    let fed = c.feed_seen-fed in
    fed_here
    (λ (k d : Connection).
    Feeds (seen c.args.self.now.store) (seen fed.new.self.store) k d c.args.piece.now c.args.moment c.args.words.now
    fed.result)
    (λ (k : ℕ). get nat_cmp c.args.self.now.connections k) (λ (k : ℕ). get nat_cmp fed.new.self.connections k)
    (λ (k : ℕ). get nat_cmp c.settle.new.connections k) c.args.conn c.requires.is_open fed.ensures.fed c.settle.ensures

pub returns-clause-others : goal.returns-clause-others
returns-clause-others g c =
    let seen = g.S.Store.seen in
    let fed = c.feed_seen-fed in
    fed_others
    (λ (k d : Connection).
    Feeds (seen c.args.self.now.store) (seen fed.new.self.store) k d c.args.piece.now c.args.moment c.args.words.now
    fed.result)
    (λ (k : ℕ). get nat_cmp c.args.self.now.connections k) (λ (k : ℕ). get nat_cmp fed.new.self.connections k)
    (λ (k : ℕ). get nat_cmp c.settle.new.connections k) c.args.conn c.requires.is_open fed.ensures.fed c.settle.ensures
    c.requires.seen
    fed.ensures.others
