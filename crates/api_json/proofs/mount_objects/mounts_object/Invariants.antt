use Rattle.std.proofs.Common.{◌≡◌, ◌∷◌, [], take, map, fold}
use Rattle.api_json.specs.Words.{with_member, mount_entry}
use Rattle.api_json.proofs.mount_objects.mounts_object.Given as goal

abbrev pub invariant-loop-mount : goal.invariant-loop-mount
invariant-loop-mount l = l.object ≡ fold with_member (123 ∷ []) (map mount_entry (take l.mount-index l.mounts))
