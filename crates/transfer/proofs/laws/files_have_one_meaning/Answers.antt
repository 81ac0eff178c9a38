use Rattle.transfer.proofs.OneFile.{one_meaning}
use Rattle.transfer.proofs.laws.files_have_one_meaning.Goals as goal

pub returns : goal.returns
returns c = one_meaning
