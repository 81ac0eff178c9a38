-- Times: the civil date of a day, by counting off years and months from the first of January 1970, and its text (RFC
-- 3339, section 5.6, and appendix C for leap years).
use Rattle.std.specs.Prelude.{◌≡◌, ℕ, zero, suc, ◌+◌, ◌-◌, ◌/◌, ◌%◌, List, ◌++◌, codes, true, false, nat_lt, pos}
use Rattle.jiff_core.specs.Calendar.{days_in_year, days_in_month}
use Rattle.jiff_core.specs.declared.civil.time.Time.{Time}
use Rattle.jiff_fmt.specs.Text.{pad2, pad4}

-- a day of the calendar
pub record Day : Type 0 where
  pub year : ℕ
  pub month : ℕ
  pub day : ℕ

-- the day n days after the first of a month; at most k months are counted off
unfoldable pub day_from_month : ℕ → ℕ → ℕ → ℕ → Day
day_from_month zero y m n = record { year = y; month = m; day = n + 1 }
day_from_month (suc k) y m n =
    elim (nat_lt n (days_in_month (pos y) m)) [
      | true ↦ record { year = y; month = m; day = n + 1 }
      | false ↦ day_from_month k y (suc m) (n - days_in_month (pos y) m)
    ]

-- the day n days after the first of a year; at most k years are counted off
unfoldable pub day_from_year : ℕ → ℕ → ℕ → Day
day_from_year zero y n = day_from_month 11 y 1 n
day_from_year (suc k) y n =
    elim (nat_lt n (days_in_year (pos y))) [
      | true ↦ day_from_month 11 y 1 n
      | false ↦ day_from_year k (suc y) (n - days_in_year (pos y))
    ]

-- the civil date of a day since 1970, up to the year 9999
unfoldable pub civil : ℕ → Day
civil n = day_from_year 8029 1970 n

-- the time of a place in the day, with no fraction
abbrev pub IsClock : ℕ → Time → Type 0
IsClock n t = (t.hour ≡ n / 3600) × (t.minute ≡ n / 60 % 60) × (t.second ≡ n % 60) × (t.subsec_nanosecond ≡ 0)

-- the clock of a second, with colons
abbrev pub clock : ℕ → List ℕ
clock s = pad2 (s % 86400 / 3600) ++ codes ":" ++ pad2 (s % 86400 / 60 % 60) ++ codes ":" ++ pad2 (s % 86400 % 60)

-- `2023-11-14T22:13:20Z` (RFC 3339, section 5.6)
abbrev pub time_text : ℕ → List ℕ
time_text s =
    let d = civil (s / 86400) in
    pad4 d.year ++ codes "-" ++ pad2 d.month ++ codes "-" ++ pad2 d.day ++ codes "T" ++ clock s ++ codes "Z"
