use Rattle.broker_types.specs.declared.refusal.Field.TheVariants as field
use Rattle.api_json.specs.Words.{members_of}
use Rattle.api_json.proofs.KeptObjects.{given_members}
use Rattle.api_json.proofs.KeptMeta.{short_text}
use Rattle.api_json.proofs.policy_bodies.policy_text.Goals as goal

pub returns-clause-storable : goal.returns-clause-storable
returns-clause-storable c bytes fits is =
    let ms = members_of c.args.body.now in
    short_text bytes ms field.Policy c.required.result fits (given_members bytes ms is) c.required.ensures
