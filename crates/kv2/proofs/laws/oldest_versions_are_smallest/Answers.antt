use Rattle.kv2.proofs.OldestVersion.{oldest_is_smallest}
use Rattle.kv2.proofs.laws.oldest_versions_are_smallest.Goals as goal

pub returns : goal.returns
returns c = oldest_is_smallest
