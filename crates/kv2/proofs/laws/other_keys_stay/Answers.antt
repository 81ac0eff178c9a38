use Rattle.std.proofs.Common.{◌∷◌, []}
use Rattle.kv2.specs.Words.{soft_deleted, restored, destroyed}
use Rattle.kv2.proofs.KeyHistory.{other_stays, others_stay, others_kept, removed_apart, dropped_apart}
use Rattle.kv2.proofs.laws.other_keys_stay.Goals as goal

pub returns-clause-written : goal.returns-clause-written
returns-clause-written c b mount path cas object w is q apart = others_stay b mount path cas object w is q apart

pub returns-clause-changed : goal.returns-clause-changed
returns-clause-changed c b mount path ns q apart = record {
  deleted = other_stays b mount path (soft_deleted b.clock) (λ k. k.current ∷ []) q apart;
  versions_deleted = other_stays b mount path (soft_deleted b.clock) (λ _. ns) q apart;
  restored = other_stays b mount path restored (λ _. ns) q apart;
  destroyed = other_stays b mount path destroyed (λ _. ns) q apart;
  described = λ given. others_kept b mount path given q apart;
  removed = removed_apart b mount path q apart;
}

pub returns-clause-dropped : goal.returns-clause-dropped
returns-clause-dropped c b mount q apart = dropped_apart b mount q apart
