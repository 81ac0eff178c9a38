use Rattle.std.proofs.Common.{◌==◌, rules, tests}
use Rattle.broker_types.specs.Words.{YieldsList-from_slice_split, any_from_yields_List}
use Rattle.http_layer.specs.Words.{is_list_part}
use Rattle.http_layer.proofs.query.lists.Goals as goal

pub returns : goal.returns
returns c =
    any_from_yields_List is_list_part _ _ _ c.any.ensures.ran
    (YieldsList-from_slice_split _ (λ b. b == 38) c.args.query.now c.split.ensures.rest c.split.ensures.done
    c.split.ensures.closure
    (λ x b q k. search (rules, tests)))
    (λ x b q k. search (rules, tests))
