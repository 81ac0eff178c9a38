use Rattle.soundness.proofs.TextLemmas.{identified}
use Rattle.broker_model.specs.Words.{MatchOption-at_none}
use Rattle.soundness.proofs.texts.is_identifier.Goals as goal

pub returns-in-Some-clause-sound : goal.returns-in-Some-clause-sound
returns-in-Some-clause-sound c = identified c.word_of.result c.args.text.now _ c.in-Some.is c.word_of.ensures.sound

pub returns-in-None-clause-whole : goal.returns-in-None-clause-whole
returns-in-None-clause-whole c = λ i. absurd (MatchOption-at_none _ _ c.in-None.is c.word_of.ensures.whole i)
