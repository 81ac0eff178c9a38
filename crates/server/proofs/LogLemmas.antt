-- The path in a line of the log, one byte more.
use Rattle.std.proofs.Common.{◌≡◌, ◌+◌, ◌<◌, ◌≤◌, ◌==◌, ◌∷◌, ◌++◌, ℕ, List, [], map, length, get_or, drop, slice_range}
use Rattle.records.specs.Words.{false, refl, sym, ap, ◌∙◌, append_assoc}
use Rattle.broker_types.specs.SliceLaws.{slice_grown, slice_none, drop_first}
use Rattle.server.specs.LogLine.{shown_byte, shown_path, shown_segment}

-- at a slash a segment is shown
pub at_slash : (s shown : List ℕ) (start i : ℕ) → i < length s → get_or s i 0 ≡ 47
    → shown ++ shown_path (slice_range s start i) (drop i s)
    ≡ ((shown ++ shown_segment (slice_range s start i)) ++ 47 ∷ [])
    ++ shown_path (slice_range s (i + 1) (i + 1)) (drop (i + 1) s)
at_slash s shown start i within slash =
    rw (drop_first s i within, slash, slice_none s (i + 1))
    (sym (append_assoc (shown ++ shown_segment (slice_range s start i)) (47 ∷ []) _
    ∙ append_assoc shown (shown_segment (slice_range s start i)) _))

-- at another byte it grows
pub at_other : (s : List ℕ) (start i : ℕ) → start ≤ i → i < length s → (get_or s i 0 == 47) ≡ false
    → shown_path (slice_range s start i) (drop i s) ≡ shown_path (slice_range s start (i + 1)) (drop (i + 1) s)
at_other s start i from within other = rw (drop_first s i within, slice_grown s start i from within, other) refl

-- one byte of a segment more is shown
pub one_more : (s shown : List ℕ) (i : ℕ) → i < length s
    → shown ++ map shown_byte (drop i s) ≡ (shown ++ shown_byte (get_or s i 0) ∷ []) ++ map shown_byte (drop (i + 1) s)
one_more s shown i within = rw (drop_first s i within) (sym (append_assoc shown (shown_byte (get_or s i 0) ∷ []) _))

-- ---- a line, part by part

-- a part x is added to what was there
pub more : (x : List ℕ) → {l k a : List ℕ} → l ≡ k ++ x → k ≡ a → l ≡ a ++ x
more x {l} {k} {a} added before = added ∙ ap (λ (z : List ℕ). z ++ x) before
