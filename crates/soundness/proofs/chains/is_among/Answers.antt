use Rattle.broker_model.specs.Words.{MatchOption-at_none}
use Rattle.soundness.proofs.RootedLemmas.{token_of_root}
use Rattle.soundness.proofs.chains.is_among.Goals as goal

pub returns-in-None-clause-whole : goal.returns-in-None-clause-whole
returns-in-None-clause-whole c = λ rows each other rooted.
    MatchOption-at_none _ _ c.in-None.is c.word_of_token.ensures.whole
    (token_of_root rooted.0 rows c.args.token.now rooted.1)
