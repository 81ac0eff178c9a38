use Rattle.std.proofs.Common.{◌∙◌, ap}
use Rattle.serde_json.specs.View.{members_view, view}
use Rattle.serde_json.specs.Written.{has_float, members_have_float}
use Rattle.command_line.proofs.BodyLemmas.{put-whole}
use Rattle.command_line.proofs.objects.put_number.Goals as goal

pub returns-in_ok-put-in-Some-clause-whole : goal.returns-in_ok-put-in-Some-clause-whole
returns-in_ok-put-in-Some-clause-whole c =
    λ whole.
    ap members_have_float c.in_ok-put-in-Some.ensures.ok
    ∙ put-whole c.args.name.now (view c.from.result) (members_view c.args.object.now.entries)
    (ap has_float c.from.ensures) whole
