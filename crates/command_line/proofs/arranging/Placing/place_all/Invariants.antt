use Rattle.std.proofs.Common.{◌≡◌, drop, map}
use Rattle.std.specs.Prelude.{fold, string_bytes}
use Rattle.command_line.specs.Arranging.{place, placed_of}
use Rattle.command_line.proofs.arranging.Placing.place_all.Given as goal

-- with the words that are left, in their places, all are
abbrev pub invariant-loop-word : goal.invariant-loop-word
invariant-loop-word l = fold place (placed_of l.self) (map string_bytes (drop l.word-index l.words))
    ≡ fold place (placed_of l.initial.self) (map string_bytes l.words)
