-- What a transaction leaves of a store, by how it ends (this project's definition).
use Rattle.std.specs.Prelude.{◌≡◌, ◌≤◌, Result, IsTrue, OnOk, OnErr}
use Rattle.broker_model.specs.Words.{Fault, Kept, IsHonestStore, is_storage}

-- Whole or not at all: after a fault the rows are as before, as long as the storage can still be asked. It can after an
-- answer; after a fault nothing is known of that.
pub record IsAtomic {A : Type 0} (old new : Kept) (result : Result A Fault) : Type 0 where
  pub kept : IsHonestStore new → IsTrue new.is_open → OnErr result (new.rows ≡ old.rows)
  pub stands : IsHonestStore new → OnOk result (IsTrue new.is_open)
  pub mismatches : old.mismatches ≤ new.mismatches
  -- what is closed stays closed
  pub closes : IsTrue new.is_open → IsTrue old.is_open
  pub failed : new.has_failed ≡ is_storage result
