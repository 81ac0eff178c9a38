use Rattle.std.proofs.Common.{◌≡◌, ◌++◌, take, map}
use Rattle.serde_json.specs.Data.{string}
use Rattle.serde_json.specs.View.{view}
use Rattle.command_line.proofs.objects.push_texts.Given as goal

-- the texts so far were added
abbrev pub invariant-loop-text : goal.invariant-loop-text
invariant-loop-text l = map view l.values.items
    ≡ map view l.initial.values.items ++ map string (map (λ t. t.now) (take l.text-index l.texts))
