use Rattle.std.proofs.Common.{◌≡◌, ◌<◌, ◌≤◌, ◌^◌, drop, length}
use Rattle.api_json.specs.Words.{digits_from}
use Rattle.api_json.proofs.from_member.count_text.Given as goal

abbrev pub invariant-loop-digit : goal.invariant-loop-digit
invariant-loop-digit l = record {
  rest : digits_from l.count (drop l.digit-index l.text) ≡ digits_from 0 l.text;
  small : l.count < 10 ^ l.digit-index;
  long : length l.text ≤ 18;
}
