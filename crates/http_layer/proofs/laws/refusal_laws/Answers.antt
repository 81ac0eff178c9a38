use Rattle.http_layer.specs.Words.{front_refuses, ask_refuses}
use Rattle.http_layer.proofs.laws.refusal_laws.Goals as goal

pub returns-clause-fronts : goal.returns-clause-fronts
returns-clause-fronts c = front_refuses

pub returns-clause-asks : goal.returns-clause-asks
returns-clause-asks c = ask_refuses
