-- Where a line ends (this project's definition).
use Rattle.std.specs.Prelude.{◌≡◌, ◌<◌, ◌==◌, ◌∷◌, ℕ, Bool, List, suc, length, take, drop, true}
use Rattle.records.specs.Splits.{lacks, line_feed}

-- whether it is a line feed
abbrev pub is_line_feed : ℕ → Bool
is_line_feed b = b == line_feed

-- a line feed is there, and none before it
pub record IsCutAt (end : ℕ) (bytes : List ℕ) : Type 0 where
  pub within : end < length bytes
  pub front : lacks line_feed (take end bytes) ≡ true
  pub feed : drop end bytes ≡ line_feed ∷ drop (suc end) bytes
