use Rattle.broker.proofs.order.operating.act.Goals as goal

pub act_for-requires-clause-known : goal.act_for-requires-clause-known
act_for-requires-clause-known g c = c.requires.known c.in-Some.asker c.in-Some.is
