-- One byte more of a path.
use Rattle.std.proofs.Common.{◌≡◌, ◌+◌, ◌<◌, ◌≤◌, ◌==◌, ℕ, List, length, get_or, drop, slice_range, true, false, refl}
use Rattle.broker_types.specs.Words.{list_all, is_segment, segments}
use Rattle.broker_types.specs.SliceLaws.{slice_grown, slice_none, drop_first}

-- at a slash a part ends
pub at_slash : (s : List ℕ) (start i : ℕ) → i < length s → get_or s i 0 ≡ 47 → is_segment (slice_range s start i) ≡ true
    → list_all is_segment (segments (slice_range s start i) (drop i s))
    ≡ list_all is_segment (segments (slice_range s (i + 1) (i + 1)) (drop (i + 1) s))
at_slash s start i within slash good =
    rw (drop_first s i within, slash, slice_none s (i + 1), good) refl

-- at another byte it grows
pub at_other : (s : List ℕ) (start i : ℕ) → start ≤ i → i < length s → (get_or s i 0 == 47) ≡ false
    → list_all is_segment (segments (slice_range s start i) (drop i s))
    ≡ list_all is_segment (segments (slice_range s start (i + 1)) (drop (i + 1) s))
at_other s start i from within other = rw (drop_first s i within, slice_grown s start i from within, other) refl
