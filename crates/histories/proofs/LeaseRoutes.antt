-- What the paths mean that end leases.
use Rattle.std.proofs.Common.{◌++◌, ◌∷◌}
use Rattle.histories.specs.Words.{[], codes, refl, same, AreInOrder, FoundByForm, NoneFoundByForm, Leases, Mounts}
use Rattle.histories.specs.Words.{Verb, MountType, LeaseOperation, MountOperation, PathsEndLeases}
use Rattle.histories.proofs.Routes.{asked}

module _ (found : FoundByForm) (none : NoneFoundByForm) (ordered : AreInOrder) where
  pub paths_end_leases : PathsEndLeases
  unfolding same
  paths_end_leases = record {
    revoke =
        asked found none ordered MountType.System Verb.Write (codes "sys") (codes "leases/revoke")
        (codes "sys/leases/revoke") (codes "leases/revoke") []
        (Leases LeaseOperation.Revoke) (λ o. refl) refl refl (record { listed = refl; form = refl; alone = refl }) refl
        refl;
    revoke_prefix =
        λ c prefix bytes. asked found none ordered MountType.System Verb.Write (codes "sys")
        (codes "leases/revoke-prefix/" ++ c ∷ prefix)
        (codes "sys/leases/revoke-prefix/" ++ c ∷ prefix) (codes "leases/revoke-prefix/{*path}") (c ∷ prefix)
        (Leases LeaseOperation.RevokeUnder) (λ o. refl) refl bytes
        (record { listed = refl; form = refl; alone = refl }) refl refl;
    disable =
        λ c name bytes one. asked found none ordered MountType.System Verb.Delete (codes "sys")
        (codes "mounts/" ++ c ∷ name)
        (codes "sys/mounts/" ++ c ∷ name) (codes "mounts/{name}") (c ∷ name)
        (Mounts MountOperation.Disable) (λ o. refl) refl bytes
        (record { listed = refl; form = one; alone = refl }) refl refl;
  }
