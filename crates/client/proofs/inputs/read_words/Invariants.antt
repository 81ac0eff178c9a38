use Rattle.std.proofs.Common.{◌≡◌, ◌++◌, take, map}
use Rattle.client.proofs.inputs.read_words.Given as goal

-- the words so far were added
abbrev pub invariant-loop-word : goal.invariant-loop-word
invariant-loop-word l = map (λ w. w.word.now) l.words.items
    ≡ map (λ w. w.word.now) l.initial.words.items ++ map (λ t. t.now) (take l.word-index l.typed)
