use Rattle.std.proofs.Common.{◌≡◌, ℕ, List, map, take}
use Rattle.records.specs.Words.{Version}
use Rattle.kv2.specs.Words.{version_metadata, AreEntriesOf}
use Rattle.kv2.proofs.describing.versions_in.Given as goal

-- the versions so far are those of the entries so far
abbrev pub invariant-loop-entry : goal.invariant-loop-entry
invariant-loop-entry l = record {
  told : (vs : List (ℕ × Version)) → AreEntriesOf l.name l.listed vs
      → l.list.items ≡ map version_metadata (take l.entry-index vs);
  exact : (vs : List (ℕ × Version)) × AreEntriesOf l.name (take l.entry-index l.listed) vs
      × (l.list.items ≡ map version_metadata vs);
}
