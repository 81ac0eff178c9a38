use Rattle.broker_model.specs.Words.{◌∙◌, ℕ, refl, sym}
use Rattle.std.proofs.Common.{nat_cmp}
use Rattle.std.specs.BTreeMap.{get}
use Rattle.hub.specs.Words.{connections_in, Closed}
use Rattle.hub.proofs.EntryLemmas.{shut_at, shut_here, shut_others, shut_unseen}
use Rattle.hub.proofs.table.close.Goals as goal

pub returns-then-not-is_closed-clause-closed : goal.returns-then-not-is_closed-clause-closed
returns-then-not-is_closed-clause-closed c = λ k is. (
  Closed,
  c.settle.ensures c.args.conn
      ∙ shut_here (λ (q : ℕ). get nat_cmp c.args.connections.now q)
      (λ (q : ℕ). get nat_cmp c.replace.new.connections q) c.args.conn k is
      (sym c.is_closed.ensures ∙ c.if-not-is_closed.true) c.replace.ensures.some,
  refl,
)

pub returns-then-not-is_closed-clause-unseen : goal.returns-then-not-is_closed-clause-unseen
returns-then-not-is_closed-clause-unseen c = λ nothing.
    c.settle.ensures c.args.conn
    ∙ shut_unseen (λ (q : ℕ). get nat_cmp c.args.connections.now q)
    (λ (q : ℕ). get nat_cmp c.replace.new.connections q) c.args.conn nothing
    c.replace.ensures.none c.replace.ensures.others c.args.conn
    ∙ nothing

pub returns-then-not-is_closed-clause-others : goal.returns-then-not-is_closed-clause-others
returns-then-not-is_closed-clause-others c = λ k apart.
    c.settle.ensures k
    ∙ shut_others (λ (q : ℕ). get nat_cmp c.args.connections.now q)
    (λ (q : ℕ). get nat_cmp c.replace.new.connections q) c.args.conn
    (sym c.is_closed.ensures ∙ c.if-not-is_closed.true) c.replace.ensures.some c.replace.ensures.none
    c.replace.ensures.others k apart

pub returns-else-not-is_closed-clause-closed : goal.returns-else-not-is_closed-clause-closed
returns-else-not-is_closed-clause-closed c = λ k is.
    shut_at (connections_in c.args.connections.now c.args.conn) k is
    (sym c.is_closed.ensures ∙ c.if-not-is_closed.false)
