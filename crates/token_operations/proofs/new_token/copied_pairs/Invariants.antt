use Rattle.std.proofs.Common.{◌≡◌, ◌++◌, drop}
use Rattle.broker_model.specs.Words.{AllByRecursion}
use Rattle.token_operations.specs.TokenRanges.{IsTextPair}
use Rattle.token_operations.proofs.new_token.copied_pairs.Given as goal

-- with those that are left the copies are all, and if those are texts, all are
abbrev pub invariant-loop-pair : goal.invariant-loop-pair
invariant-loop-pair l =
    record {
      copied : l.copies.items ++ drop l.pair-index l.pairs ≡ l.pairs;
      texts : AllByRecursion IsTextPair (drop l.pair-index l.pairs) → AllByRecursion IsTextPair l.pairs;
    }
