use Rattle.broker_model.specs.Words.{None, subst, forms, Table, table_of, AreUpgraded}
use Rattle.broker_rows.proofs.laws.upgraded_rows_represent_the_same_broker.Goals as goal

pub returns-clause-old : goal.returns-clause-old
returns-clause-old c = λ b sound plain old new is up. record {
  rows = c.old_rows_are_upgraded.ensures forms None b sound plain (table_of new)
      (subst (λ (t : Table). AreUpgraded t (table_of new)) is up);
  sound = sound;
}

pub returns-clause-again : goal.returns-clause-again
returns-clause-again c = λ b old new is up. record {
  rows = c.new_rows_stay.ensures b (table_of new) (subst (λ (t : Table). AreUpgraded t (table_of new)) is.rows up);
  sound = is.sound;
}
