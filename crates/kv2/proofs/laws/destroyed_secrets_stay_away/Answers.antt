use Rattle.std.proofs.Common.{◌∷◌, []}
use Rattle.kv2.specs.Words.{soft_deleted, restored, destroyed}
use Rattle.kv2.proofs.KeyHistory.{write_restores_nothing, nothing_restored, nothing_brought_back, deleted_gone}
use Rattle.kv2.proofs.KeyHistory.{restored_gone, destroyed_gone}
use Rattle.kv2.proofs.laws.destroyed_secrets_stay_away.Goals as goal

pub returns-clause-written : goal.returns-clause-written
returns-clause-written c forms b mount path cas object w n sound is there h =
    write_restores_nothing b mount path cas object w is forms n sound there h

pub returns-clause-changed : goal.returns-clause-changed
returns-clause-changed c b mount path ns n h = record {
  deleted = nothing_restored b mount path (soft_deleted b.clock) (λ k. k.current ∷ []) (deleted_gone b.clock) n h;
  versions_deleted = nothing_restored b mount path (soft_deleted b.clock) (λ _. ns) (deleted_gone b.clock) n h;
  restored = nothing_restored b mount path restored (λ _. ns) restored_gone n h;
  destroyed = nothing_restored b mount path destroyed (λ _. ns) destroyed_gone n h;
  described = λ given. nothing_brought_back b mount path given n h;
}
