use Rattle.broker_model.specs.Words.{rules, ℕ, None, subst, first_broker, accessor_word, list_rows}
use Rattle.broker_rows.specs.Words.{Represents}
use Rattle.broker.proofs.list_store.ListStore.start.Goals as goal

pub returns-clause-told : goal.returns-clause-told
returns-clause-told c =
    let rows = list_rows c.commit.new.self in
    subst (λ (token : ℕ). Represents None rows (first_broker c.args.moment token (accessor_word c.args.words.now)))
    c.token-token_word.ensures
    (subst (λ (accessor : ℕ). Represents None rows (first_broker c.args.moment c.token-token_word.result accessor))
    c.accessor-accessor_word.ensures
    (search rules))
