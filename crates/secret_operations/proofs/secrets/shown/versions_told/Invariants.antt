use Rattle.std.proofs.Common.{◌≡◌, map, take}
use Rattle.broker_model.specs.Words.{version_told}
use Rattle.secret_operations.proofs.secrets.shown.versions_told.Given as goal

-- the versions so far are told
abbrev pub invariant-loop-version : goal.invariant-loop-version
invariant-loop-version l = l.told.items ≡ map version_told (take l.version-index l.versions)
