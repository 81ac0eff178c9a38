use Rattle.broker_model.proofs.WrappingProper.{wrap_sound, wrap_evolves, wrap_adds_one}
use Rattle.broker_model.proofs.laws.wrapping_is_proper.Goals as goal

pub returns-clause-sound : goal.returns-clause-sound
returns-clause-sound c forms who b path ttl names own d r made new used taken good sound =
    wrap_sound b path ttl names d r made forms who own new used taken good sound

pub returns-clause-evolves : goal.returns-clause-evolves
returns-clause-evolves c = wrap_evolves

pub returns-clause-alone : goal.returns-clause-alone
returns-clause-alone c = wrap_adds_one
