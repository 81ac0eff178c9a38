use Rattle.std.proofs.Common.{◌≡◌, drop}
use Rattle.serde_json.specs.View.{items_view}
use Rattle.api_json.specs.Words.{each_item}
use Rattle.api_json.proofs.Gathering.{onto}
use Rattle.policies.specs.Words.{word}
use Rattle.policies.proofs.reading.each_word.Given as goal

abbrev pub invariant-loop-item : goal.invariant-loop-item
invariant-loop-item l = onto l.words.items (each_item word (items_view (drop l.item-index l.item-items)))
    ≡ each_item word (items_view l.item-items)
