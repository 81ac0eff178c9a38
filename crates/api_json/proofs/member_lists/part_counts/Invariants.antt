use Rattle.std.proofs.Common.{◌≡◌, drop}
use Rattle.api_json.specs.Words.{each_count}
use Rattle.api_json.proofs.Gathering.{onto}
use Rattle.api_json.proofs.member_lists.part_counts.Given as goal

abbrev pub invariant-loop-part : goal.invariant-loop-part
invariant-loop-part l = onto l.list.items (each_count (drop l.part-index l.parts)) ≡ each_count l.parts
