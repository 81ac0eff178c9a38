use Rattle.std.proofs.Common.{◌≡◌, drop, map}
use Rattle.std.specs.Prelude.{string_bytes}
use Rattle.command_line.specs.Examples.{first_word}
use Rattle.command_line.proofs.examples.first_word.Given as goal

-- the words that were passed over begin with a dash
abbrev pub invariant-loop-word : goal.invariant-loop-word
invariant-loop-word l = first_word (map string_bytes l.words)
    ≡ first_word (map string_bytes (drop l.word-index l.words))
