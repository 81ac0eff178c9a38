-- Which moment the system's clock tells (this project's definition).
use Rattle.std.specs.Prelude.{◌/◌, ℕ, min, Result, Ok, Err}
use Rattle.records.specs.Words.{system_time_nanos, SystemTime, greatest_moment}

-- whole seconds since the beginning of 1970: 0 if the clock cannot be read or tells an earlier time, and at most the
-- greatest moment
abbrev pub moment_of : {E : Type 0} → Result SystemTime E → ℕ
moment_of (Ok time) = min (system_time_nanos time / 1000000000) greatest_moment
moment_of (Err error) = 0
