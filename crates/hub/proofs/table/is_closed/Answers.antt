use Rattle.broker_model.specs.Words.{◌∙◌, ℕ, refl, sym, ap}
use Rattle.std.proofs.Common.{nat_cmp}
use Rattle.std.specs.BTreeMap.{get}
use Rattle.hub.specs.Words.{closed_at}
use Rattle.hub.proofs.EntryLemmas.{at_last, at_none}
use Rattle.hub.proofs.table.is_closed.Goals as goal

pub returns-in-Some : goal.returns-in-Some
returns-in-Some c =
    c.is_closed_at.ensures
    ∙ sym (ap closed_at (at_last (λ (k : ℕ). get nat_cmp c.args.connections.now k) c.args.conn c.in-Some.first
    c.in-Some.entry.now c.in-Some.ensures.some))

pub returns-in-None : goal.returns-in-None
returns-in-None c =
    sym (ap closed_at (at_none (λ (k : ℕ). get nat_cmp c.args.connections.now k) c.args.conn
    (c.in-None.ensures.none refl)))
