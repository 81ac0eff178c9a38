use Rattle.broker_types.specs.Words.{sym, ◌∙◌}
use Rattle.api_json.specs.Words.{members_of}
use Rattle.api_json.proofs.KeptObjects.{payloads_kept, given_members}
use Rattle.api_json.proofs.secret_bodies.secret_write.Goals as goal

pub returns-clause-storable : goal.returns-clause-storable
returns-clause-storable c bytes fits is =
    let read = given_members bytes (members_of c.args.body.now) is in
    payloads_kept bytes (members_of c.args.body.now) _ fits read (sym c.in_ok-text.ensures ∙ c.in-Some.is)
