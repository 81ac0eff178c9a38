use Rattle.broker_model.specs.Words.{ℕ, None, subst, first_broker, accessor_word}
use Rattle.broker_rows.specs.Words.{Represents}
use Rattle.broker_sql.specs.SqlKept.{sql_kept}
use Rattle.broker_sql.proofs.sql_store.SqlStore.start.Goals as goal

pub returns-in-Ok-clause-told : goal.returns-in-Ok-clause-told
returns-in-Ok-clause-told g c honest =
    let rows = (sql_kept g.S.Store c.write_start.new.self).rows in
    let token = c.token-token_word.result in
    subst (λ (t : ℕ). Represents None rows (first_broker c.args.moment t (accessor_word c.args.words.now)))
    c.token-token_word.ensures
    (subst (λ (a : ℕ). Represents None rows (first_broker c.args.moment token a)) c.accessor-accessor_word.ensures
    (c.in-Ok.ensures.told honest))
