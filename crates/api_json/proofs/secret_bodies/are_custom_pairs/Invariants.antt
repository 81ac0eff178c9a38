use Rattle.std.proofs.Common.{◌≡◌, drop}
use Rattle.broker_types.specs.Words.{AllByRecursion, list_all, IsCustomPair}
use Rattle.api_json.specs.Words.{is_custom_pair}
use Rattle.api_json.proofs.secret_bodies.are_custom_pairs.Given as goal

-- so far each is accepted: if those that are left are, all are
abbrev pub invariant-loop-pair : goal.invariant-loop-pair
invariant-loop-pair l =
    record {
      value : list_all is_custom_pair l.pairs ≡ list_all is_custom_pair (drop l.pair-index l.pairs);
      accepted : AllByRecursion (λ e. IsCustomPair e.0 e.1) (drop l.pair-index l.pairs)
          → AllByRecursion (λ e. IsCustomPair e.0 e.1) l.pairs;
    }
