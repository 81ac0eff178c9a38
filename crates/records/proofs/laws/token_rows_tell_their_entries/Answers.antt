use Rattle.records.specs.Words.{entry_row-injective}
use Rattle.records.proofs.laws.token_rows_tell_their_entries.Goals as goal

pub returns : goal.returns
returns c = entry_row-injective
