use Rattle.std.proofs.Common.{◌∷◌, []}
use Rattle.kv2.specs.Words.{soft_deleted, restored, destroyed}
use Rattle.kv2.proofs.KeyHistory.{number_stays, number_kept, new_number}
use Rattle.kv2.proofs.laws.numbers_are_given_once.Goals as goal

pub returns-clause-written : goal.returns-clause-written
returns-clause-written c b mount path cas object w is = new_number b mount path cas object w is

pub returns-clause-changed : goal.returns-clause-changed
returns-clause-changed c b mount path ns = record {
  deleted = number_stays b mount path (soft_deleted b.clock) (λ k. k.current ∷ []);
  versions_deleted = number_stays b mount path (soft_deleted b.clock) (λ _. ns);
  restored = number_stays b mount path restored (λ _. ns);
  destroyed = number_stays b mount path destroyed (λ _. ns);
  described = λ given. number_kept b mount path given;
}
