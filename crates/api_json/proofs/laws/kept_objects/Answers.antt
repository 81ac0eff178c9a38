use Rattle.api_json.proofs.KeptObjects.{bodies_back, bodies_kept, payloads_kept}
use Rattle.api_json.proofs.Lengths.{no_longer}
use Rattle.api_json.proofs.laws.kept_objects.Goals as goal

pub returns-clause-back : goal.returns-clause-back
returns-clause-back c = bodies_back

pub returns-clause-no_longer : goal.returns-clause-no_longer
returns-clause-no_longer c = no_longer

pub returns-clause-bodies : goal.returns-clause-bodies
returns-clause-bodies c = bodies_kept

pub returns-clause-payloads : goal.returns-clause-payloads
returns-clause-payloads c = payloads_kept
