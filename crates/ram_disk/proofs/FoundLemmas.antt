-- What is found in files without a byte.
use Rattle.std.proofs.Common.{◌≡◌, inl, inr, [], length, ap, arith}
use Rattle.sqlite_trees.specs.Tree.{Trees}
use Rattle.sqlite_wal.specs.Recovery.{Image}
use Rattle.sqlite.specs.Files.{AreFoundIn, IsEmpty}

pub none_found : (image : Image) (db : Trees) → image.db ≡ [] → AreFoundIn image db → IsEmpty db
none_found image db none (inl (size, pages, wanted, adopts, ours, reads)) =
    absurd (omega (arith, ap length none, adopts.found.present))
none_found image db none (inr nothing) = nothing.1
