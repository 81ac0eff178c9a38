use Rattle.std.proofs.Common.{◌≡◌, drop, option_map}
use Rattle.records.specs.Words.{is_ascending, ascends_after}
use Rattle.records.proofs.token_lists.ascends.Given as goal

-- so far they ascend
abbrev pub invariant-loop-t : goal.invariant-loop-t
invariant-loop-t l = is_ascending l.list ≡ ascends_after (option_map (λ t. t.now) l.last) (drop l.t-index l.list)
