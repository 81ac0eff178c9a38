use Rattle.broker_types.specs.FirstLaws.{first_sound}
use Rattle.broker_types.proofs.laws.first_broker_is_sound.Goals as goal

pub returns : goal.returns
returns c = λ forms moment v w now fits_v fits_w ne accepted. first_sound forms moment v w now fits_v fits_w ne accepted
