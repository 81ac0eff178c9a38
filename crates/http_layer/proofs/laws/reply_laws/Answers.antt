use Rattle.http_layer.specs.Words.{IsReply-unique, IsReply-not_empty}
use Rattle.http_layer.proofs.laws.reply_laws.Goals as goal

pub returns-clause-unique : goal.returns-clause-unique
returns-clause-unique c = IsReply-unique

pub returns-clause-not_empty : goal.returns-clause-not_empty
returns-clause-not_empty c = IsReply-not_empty
