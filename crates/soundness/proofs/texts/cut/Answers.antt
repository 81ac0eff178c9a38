use Rattle.broker_model.specs.Words.{arith}
use Rattle.soundness.proofs.TextLemmas.{cut_result, cut_exact}
use Rattle.soundness.proofs.texts.cut.Goals as goal

pub returns-clause-sound : goal.returns-clause-sound
returns-clause-sound c = cut_result 47 (omega arith) c.args.text.now c.split_once.result c.split_once.ensures.cases

pub returns-clause-exact : goal.returns-clause-exact
returns-clause-exact c = cut_exact 47 (omega arith) c.args.text.now c.split_once.result c.split_once.ensures.cases
