use Rattle.std.proofs.Common.{ap, ◌∙◌}
use Rattle.serde_json.specs.Written.{has_float}
use Rattle.serde_json.proofs.Views.{view-Object}
use Rattle.command_line.proofs.BodyLemmas.{members_given-whole}
use Rattle.command_line.proofs.bodies.body_of_words.Goals as goal

pub text_of_object-requires : goal.text_of_object-requires
text_of_object-requires c = ap has_float (view-Object c.in_ok-members.members)
    ∙ members_given-whole c.args.words.now _ c.in_ok-members.ensures.ok
