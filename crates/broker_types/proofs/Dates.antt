-- A date of the library is the civil date of its day number.
use Rattle.std.proofs.Common.{◌≡◌, ◌+◌, ◌-◌, ◌<◌, ◌≤◌, ◌<ℤ◌, ◌≤ℤ◌, ℕ, suc, pos, negsuc, ℤ, unsigned_abs, refl, sym, ◌∙◌}
use Rattle.broker_types.specs.Words.{arith, by_lt_z, civil}
use Rattle.jiff_core.specs.Calendar.{days_in_month, days_of_years, days_of_months, day_count, days_from_civil}
use Rattle.jiff_core.specs.Calendar.{IsCivilDate}
use Rattle.jiff_core.proofs.CalendarLemmas.{day_count-lt_year, day_of_year_bound, days_of_months-zero}
use Rattle.jiff_core.proofs.SignedLemmas.{signed_arith}
use Rattle.broker_types.proofs.Counted.{year_found, month_found}

early : (y : ℤ) (m d n : ℕ) → IsCivilDate y m d → days_from_civil y m d ≡ pos n → y <ℤ pos 1970 → pos 0 <ℤ pos 0
unfolding days_from_civil
early y m d n civ e lt =
    let less = day_count-lt_year y m d (pos 1970) 1 1 civ (omega arith) lt in
    omega (arith, signed_arith)

late : (y : ℤ) (m d n : ℕ) → IsCivilDate y m d → days_from_civil y m d ≡ pos n → pos 1970 ≤ℤ y
late y m d n civ e =
    by_lt_z y (pos 1970) (λ lt. absurd (let bad = early y m d n civ e lt in omega (arith, signed_arith))) (λ ge. ge)

-- the days before a date, from the first of 1970
split : (y m d n : ℕ) → 1 ≤ m → 1 ≤ d → days_from_civil (pos y) m d ≡ pos n
    → n + days_of_years 11970 ≡ days_of_years (y + 10000) + (days_of_months (pos y) (m - 1) + (d - 1))
unfolding days_from_civil day_count
split y m d n from first e =
    let h : day_count (pos y) m d ≡ n + day_count (pos 1970) 1 1 = omega (arith, signed_arith) in
    let a : day_count (pos y) m d ≡ days_of_years (y + 10000) + (days_of_months (pos y) (m - 1) + d - 1) = refl in
    let b : day_count (pos 1970) 1 1 ≡ days_of_years 11970 + (days_of_months (pos 1970) 0 + 1 - 1) = refl in
    omega (arith, days_of_months-zero (pos 1970))

-- the civil date of its day number, at a year that is no negative
found_at : (y m d n : ℕ) → IsCivilDate (pos y) m d → days_from_civil (pos y) m d ≡ pos n → pos 1970 ≤ℤ pos y
    → civil n ≡ record { year = y; month = m; day = d }
unfolding civil
found_at y m d n civ e ge =
    let low : 1970 ≤ y = omega (arith, signed_arith) in
    let high : y ≤ 9999 = omega (arith, signed_arith, civ.0.1) in
    let bound = day_of_year_bound (pos y) m d civ in
    let whole = split y m d n civ.1.0 civ.2.0 e in
    let in_year = year_found 8029 1970 n y (days_of_months (pos y) (m - 1) + (d - 1)) low (omega arith) whole
    (omega arith) in
    let month : suc (m - 1) ≡ m = omega arith in
    let last : d - 1 < days_in_month (pos y) (suc (m - 1)) = rw month (omega (arith, civ.2.1)) in
    let in_month =
    month_found 11 y 0 (days_of_months (pos y) (m - 1) + (d - 1)) (m - 1) (d - 1) (omega arith) (omega arith)
    (omega (arith, days_of_months-zero (pos y))) last in
    let day : d - 1 + 1 ≡ d = omega arith in
    in_year ∙ in_month ∙ rw (month, day) refl

no_negative : (y : ℤ) → pos 1970 ≤ℤ y → y ≡ pos (unsigned_abs y)
no_negative (pos n) h = refl
no_negative (negsuc n) h = absurd (omega (arith, signed_arith))

pub civil_of_date : (y : ℤ) (m d n : ℕ) → IsCivilDate y m d → days_from_civil y m d ≡ pos n
    → (pos (civil n).year ≡ y) × ((civil n).month ≡ m) × ((civil n).day ≡ d)
civil_of_date y m d n civ e =
    let ge = late y m d n civ e in
    let same = no_negative y ge in
    let at = found_at (unsigned_abs y) m d n (rw (← same) civ) (rw (← same) e) (rw (← same) ge) in
    rw at (sym same, refl, refl)
