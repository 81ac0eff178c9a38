use Rattle.api_json.proofs.Printed.{prints_front, prints_json, prints_back}
use Rattle.api_json.proofs.laws.objects_are_json.Goals as goal

pub returns-clause-front : goal.returns-clause-front
returns-clause-front c = prints_front

pub returns-clause-json : goal.returns-clause-json
returns-clause-json c = prints_json

pub returns-clause-back : goal.returns-clause-back
returns-clause-back c = prints_back
