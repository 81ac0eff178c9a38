use Rattle.std.proofs.Common.{◌+◌, ◌∷◌, sym, ap, ◌∙◌, [], get_or, take, string_bytes}
use Rattle.broker_types.specs.Words.{fold-map, fold_more}
use Rattle.api_json.specs.Words.{quoted, with_item}
use Rattle.api_json.proofs.printing.texts.Goals as goal

pub loop-value-preserved : goal.loop-value-preserved
loop-value-preserved c =
    let vs = c.args.values.now in
    let i = c.loop-value.value-index in
    let item = c.as_str-in-loop-value.ensures.value ∙ c.in_ok-value.ensures
    ∙ ap quoted (c.as_str.ensures ∙ c.value-item.is) in
    c.in_ok-push_item.ensures ∙ ap (with_item (string_bytes c.loop-value.text)) item
    ∙ ap (λ b. with_item b (quoted (get_or vs i c.value-item.result)))
    (c.loop-value.invariant ∙ fold-map with_item quoted (91 ∷ []) (take i vs))
    ∙ sym (fold-map with_item quoted (91 ∷ []) (take (i + 1) vs)
    ∙ fold_more (λ b t. with_item b (quoted t)) (91 ∷ []) vs i c.value-item.result c.loop-value-test.true)
