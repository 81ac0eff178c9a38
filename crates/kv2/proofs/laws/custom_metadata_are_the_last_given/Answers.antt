use Rattle.std.proofs.Common.{◌∷◌, []}
use Rattle.kv2.specs.Words.{soft_deleted, restored, destroyed}
use Rattle.kv2.proofs.KeyHistory.{metadata_replaced, metadata_kept, versions_kept_as_they_were, metadata_stay_at_write}
use Rattle.kv2.proofs.KeyHistory.{metadata_stay}
use Rattle.kv2.proofs.laws.custom_metadata_are_the_last_given.Goals as goal

pub returns-clause-set : goal.returns-clause-set
returns-clause-set c b mount path given = record {
  replaced = metadata_replaced b mount path given;
  kept = metadata_kept b mount path given;
  versions = versions_kept_as_they_were b mount path given;
}

pub returns-clause-written : goal.returns-clause-written
returns-clause-written c b mount path cas object w is = metadata_stay_at_write b mount path cas object w is

pub returns-clause-changed : goal.returns-clause-changed
returns-clause-changed c b mount path ns = record {
  deleted = metadata_stay b mount path (soft_deleted b.clock) (λ k. k.current ∷ []);
  versions_deleted = metadata_stay b mount path (soft_deleted b.clock) (λ _. ns);
  restored = metadata_stay b mount path restored (λ _. ns);
  destroyed = metadata_stay b mount path destroyed (λ _. ns);
}
