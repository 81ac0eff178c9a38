use Rattle.std.proofs.Common.{◌≡◌, map, filter}
use Rattle.api_json.specs.Words.{is_part, without_spaces}
use Rattle.api_json.proofs.member_lists.comma_parts.Given as goal

abbrev pub invariant-loop-part : goal.invariant-loop-part
invariant-loop-part l = l.parts.items ≡ filter is_part (map without_spaces (map (λ x. x.now) l.yielded))
