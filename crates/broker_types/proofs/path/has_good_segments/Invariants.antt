use Rattle.std.proofs.Common.{◌≡◌, ◌≤◌, [], drop, slice_range}
use Rattle.broker_types.specs.Words.{list_all, is_segment, segments}
use Rattle.broker_types.proofs.path.has_good_segments.Given as goal

abbrev pub invariant-loop-i : goal.invariant-loop-i
invariant-loop-i l = record {
  rest : list_all is_segment (segments (slice_range l.text l.start l.i) (drop l.i l.text))
      ≡ list_all is_segment (segments [] l.text);
  order : l.start ≤ l.i;
}
