use Rattle.soundness.proofs.ReadBack.{broker}
use Rattle.soundness.proofs.Whole.{represented}
use Rattle.soundness.proofs.laws.sound_rows_are_of_a_broker.Goals as goal

pub returns : goal.returns
returns c = λ rows s. (broker rows s, represented rows s)
