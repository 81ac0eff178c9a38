use Rattle.std.proofs.Common.{◌∙◌, ap}
use Rattle.broker_types.specs.Words.{drop_of_length-le}
use Rattle.server.proofs.HidingLemmas.{has_token, stays}
use Rattle.server.proofs.hiding.may_have_token.Goals as goal

pub returns : goal.returns
returns c none =
    let line = c.args.line.now in
    stays line (c.loop-i.invariant ∙ ap has_token (drop_of_length-le line c.loop-i-test.false))
