-- A database over files that never return other than what was written (this project's).
use Rattle.std.specs.Prelude.{Bool, true, false, ◌&&◌, IsTrue}
use Rattle.sqlite_disk.specs.declared.Disk.{Ghosts}
use Rattle.sqlite_pool.specs.Pool.{state}
use Rattle.sqlite_store.specs.declared.store.FileStore.{FileStore}
use Rattle.sqlite_trees.proofs.Doubt.{no_doubt}
use Rattle.sqlite.specs.Files.{file_state}
use Rattle.sqlite.specs.Held.{Held}
use Rattle.sqlite.specs.State.{HasCleanDisk}

both : (a b : Bool) → IsTrue a → IsTrue b → IsTrue (a && b)
both true b p q = q
both false b p q = absurd (let e = p in cc)

pub always_clean : {D : Type 0} {g : Ghosts D} → ((file : D) → IsTrue (g.is_clean file)) → (c : Held (FileStore D g))
    → HasCleanDisk (file_state c)
unfolding state
always_clean clean c = no_doubt _ (both _ _ (clean _) (clean _))
