use Rattle.std.proofs.Common.{◌≡◌, drop, map, option_map}
use Rattle.records.specs.Words.{is_ascending, ascends_after}
use Rattle.records.proofs.token_lists.names_ascend.Given as goal

-- so far they ascend
abbrev pub invariant-loop-e : goal.invariant-loop-e
invariant-loop-e l = is_ascending (map (λ e. e.0) l.list)
    ≡ ascends_after (option_map (λ t. t.now) l.last) (map (λ e. e.0) (drop l.e-index l.list))
