use Rattle.std.proofs.Common.{◌≡◌, [], map, fold, take}
use Rattle.api_json.specs.Words.{with_entry, version_entry}
use Rattle.api_json.proofs.secret_objects.versions_object.Given as goal

abbrev pub invariant-loop-version : goal.invariant-loop-version
invariant-loop-version l = l.entries ≡ fold with_entry [] (map version_entry (take l.version-index l.versions))
