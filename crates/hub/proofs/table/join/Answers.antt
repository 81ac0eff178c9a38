use Rattle.broker_model.specs.Words.{ℕ, rules}
use Rattle.std.proofs.Common.{nat_cmp}
use Rattle.std.specs.BTreeMap.{get}
use Rattle.hub.proofs.EntryLemmas.{joined}
use Rattle.hub.proofs.table.join.Goals as goal

pub returns-then-end-second : goal.returns-then-end-second
returns-then-end-second c =
    let x = c.in-Some.ensures in
    let y = c.in-Some-last_closed.ensures in
    joined (λ (k : ℕ). get nat_cmp c.args.connections.now k)
    (λ (k : ℕ). get nat_cmp c.merge.new.connections k) c.args.first c.args.second
    c.in-Some.end c.in-Some-last_closed.last x.0 y.0 c.requires.before c.requires.none x.1 x.2 (search rules) y.1 y.2
    (c.merge.ensures.some x.0 x.1)
    c.merge.ensures.gone c.merge.ensures.others
