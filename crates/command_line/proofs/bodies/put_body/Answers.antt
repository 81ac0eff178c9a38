use Rattle.std.proofs.Common.{ap, ◌∙◌}
use Rattle.serde_json.specs.Written.{has_float}
use Rattle.command_line.proofs.BodyLemmas.{data_given-whole, version_object-whole}
use Rattle.command_line.proofs.bodies.put_body.Goals as goal

pub text_of_object-requires : goal.text_of_object-requires
text_of_object-requires c = ap has_float c.in_ok-version.ensures
    ∙ version_object-whole _ c.args.cas (data_given-whole c.args.words.now _ c.in_ok-members.ensures.ok)
