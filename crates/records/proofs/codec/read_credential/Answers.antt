use Rattle.records.proofs.RowReads.{reads_one}
use Rattle.records.proofs.codec.read_credential.Goals as goal

pub returns : goal.returns
returns c = reads_one c.read_owned.result c.read_owned.ensures
