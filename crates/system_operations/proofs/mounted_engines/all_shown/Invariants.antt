use Rattle.std.proofs.Common.{◌≡◌, map, take}
use Rattle.broker_model.specs.Words.{shown_mount}
use Rattle.system_operations.proofs.mounted_engines.all_shown.Given as goal

-- the mounts so far are shown
abbrev pub invariant-loop-mount : goal.invariant-loop-mount
invariant-loop-mount l = l.shown.items ≡ map shown_mount (take l.mount-index l.mounts)
