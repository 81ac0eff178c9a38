use Rattle.broker_rows.proofs.FirstRows.{first_represented}
use Rattle.broker_rows.proofs.laws.the_first_broker_is_represented.Goals as goal

pub returns : goal.returns
returns c = λ rows moment v w accepted fits_v fits_w differ is. first_represented rows moment v w accepted fits_v fits_w
    differ is
