use Rattle.api_client.specs.Words.{◌≡◌, ◌++◌, ◌-◌, ℕ, List, length, take, Consumes}
use Rattle.api_client.proofs.replying.body_of.Given as goal

-- what has come is the front of what had begun and what was read
abbrev pub invariant-loop-reader : goal.invariant-loop-reader
invariant-loop-reader g l =
    (more : List ℕ) × Consumes (g.R.Source.left l.fn.reader) (g.R.Source.left l.reader) more
    × (l.body.items ≡ take l.len (l.begun ++ more))

abbrev pub decreases-loop-reader : goal.decreases-loop-reader
decreases-loop-reader g l = l.len - length l.body.items
