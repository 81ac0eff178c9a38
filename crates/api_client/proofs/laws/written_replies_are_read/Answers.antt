use Rattle.api_client.proofs.WrittenLemmas.{unique, written}
use Rattle.api_client.proofs.laws.written_replies_are_read.Goals as goal

pub returns-clause-unique : goal.returns-clause-unique
returns-clause-unique c = unique

pub returns-clause-read : goal.returns-clause-read
returns-clause-read c = written
