use Rattle.broker_model.specs.Words.{subst, refl, sym, Text, table_of}
use Rattle.soundness.specs.Words.{IsNamedBy}
use Rattle.soundness.proofs.AnswerLemmas.{from_true}
use Rattle.soundness.proofs.ReadLemmas.{accessor_unread, fails}
use Rattle.soundness.proofs.tokens.accessor.Goals as goal

pub returns-clause-sound : goal.returns-clause-sound
returns-clause-sound g c honest = (
  (c.args.row.now.owner, c.in-Ok.what),
  subst (λ (t : Text). IsNamedBy (table_of (g.T.RecordsTx.seen c.args.tx.now).rows) c.args.key.now (t, c.in-Ok.what))
      c.as_str.ensures
      (from_true c.in_ok-is_held.field-0 c.if-not-branch.false (c.in_ok-is_held.ensures.found honest)),
  c.in-Ok.ensures.exact.1,
)

pub returns-in_default-clause-broken : goal.returns-in_default-clause-broken
returns-in_default-clause-broken g c honest = accessor_unread c.args.row.now _ c.in_default.ensures _ refl

pub returns-then-not-branch-clause-broken : goal.returns-then-not-branch-clause-broken
returns-then-not-branch-clause-broken g c honest = (
  (c.args.row.now.owner, c.in-Ok.what),
  (
    tt,
    λ named. fails c.in_ok-is_held.field-0 c.if-not-branch.true (c.in_ok-is_held.ensures.whole honest)
        (subst (λ (t : Text). IsNamedBy (table_of (g.T.RecordsTx.seen c.args.tx.now).rows) c.args.key.now
        (t, c.in-Ok.what))
        (sym c.as_str.ensures) named),
  ),
  c.in-Ok.ensures.exact.1,
)
