-- Counting off years and months finds the date whose day number it is.
use Rattle.std.proofs.Common.{◌≡◌, ◌+◌, ◌-◌, ◌<◌, ◌≤◌, ◌-ℤ◌, ℕ, zero, suc, pos, ℤ, refl, ap, ◌∙◌, arith, inl, inr}
use Rattle.broker_types.specs.Words.{cases_lt, lt-ltb, le-ltb, Day, day_from_year, day_from_month}
use Rattle.jiff_core.specs.Calendar.{days_in_year, days_in_month, days_of_years, days_of_months}
use Rattle.jiff_core.proofs.CalendarLemmas.{days_of_months_mono}
use Rattle.jiff_core.proofs.SignedLemmas.{signed_arith}

-- the days before a year
abbrev pub before : ℕ → ℕ
before y = days_of_years (y + 10000)

same_year : (y : ℕ) → pos (y + 10000) -ℤ pos 10000 ≡ pos y
same_year y = omega (arith, signed_arith)

pub before-suc : (y : ℕ) → before (suc y) ≡ before y + days_in_year (pos y)
unfolding days_of_years
before-suc y =
    let up : suc y + 10000 ≡ suc (y + 10000) = omega arith in
    ap days_of_years up ∙ ap (λ (z : ℤ). days_of_years (y + 10000) + days_in_year z) (same_year y)

before-mono : (g s : ℕ) → before s ≤ before (s + g)
before-mono zero s = let same : s + 0 ≡ s = omega arith in rw same (omega arith)
before-mono (suc g) s =
    let up : s + suc g ≡ suc (s + g) = omega arith in
    let step = before-suc (s + g) in
    let below = before-mono g s in
    rw up (omega arith)

year_here : (k s n : ℕ) → n < days_in_year (pos s) → day_from_year (suc k) s n ≡ day_from_month 11 s 1 n
unfolding day_from_year
year_here k s n h = rw (day_from_year, lt-ltb n (days_in_year (pos s)) h) refl

year_later : (k s n : ℕ) → days_in_year (pos s) ≤ n
    → day_from_year (suc k) s n ≡ day_from_year k (suc s) (n - days_in_year (pos s))
unfolding day_from_year
year_later k s n h = rw (day_from_year, le-ltb n (days_in_year (pos s)) h) refl

year_last : (s : ℕ) (n : ℕ) → day_from_year zero s n ≡ day_from_month 11 s 1 n
unfolding day_from_year
year_last s n = refl

same_month : (s y n r : ℕ) → s ≡ y → n + before s ≡ before y + r → (s ≡ y) × (n ≡ r)
same_month s y n r e h = let b : before s ≡ before y = ap before e in (e, omega arith)

pub year_found : (k s n y r : ℕ) → s ≤ y → y ≤ s + k → n + before s ≡ before y + r → r < days_in_year (pos y)
    → day_from_year k s n ≡ day_from_month 11 y 1 r
year_found zero s n y r from to e small =
    let same = same_month s y n r (omega arith) e in
    year_last s n ∙ rw (same.0, same.1) refl
year_found (suc k) s n y r from to e small =
    elim (cases_lt s y) [
      | inr last ↦
          let same = same_month s y n r (omega arith) e in
          let here : n < days_in_year (pos s) = rw (same.0, same.1) small in
          year_here k s n here ∙ rw (same.0, same.1) refl
      | inl more ↦
          let step = before-suc s in
          let rest : before (suc s) ≤ before (suc s + (y - suc s)) = before-mono (y - suc s) (suc s) in
          let at : suc s + (y - suc s) ≡ y = omega arith in
          let high : before (suc s) ≤ before y = rw at at rest in
          let past : days_in_year (pos s) ≤ n = omega arith in
          year_later k s n past ∙ year_found k (suc s) (n - days_in_year (pos s)) y r more (omega arith)
          (omega arith) small
    ]

months-suc : (y : ℤ) (p : ℕ) → days_of_months y (suc p) ≡ days_of_months y p + days_in_month y (suc p)
unfolding days_of_months
months-suc y p = refl

abbrev found : ℕ → ℕ → ℕ → Day
found y q r = record { year = y; month = suc q; day = r + 1 }

month_here : (k y p n : ℕ) → n < days_in_month (pos y) (suc p) → day_from_month (suc k) y (suc p) n ≡ found y p n
unfolding day_from_month
month_here k y p n h = rw (day_from_month, lt-ltb n (days_in_month (pos y) (suc p)) h) refl

month_later : (k y p n : ℕ) → days_in_month (pos y) (suc p) ≤ n
    → day_from_month (suc k) y (suc p) n ≡ day_from_month k y (suc (suc p)) (n - days_in_month (pos y) (suc p))
unfolding day_from_month
month_later k y p n h = rw (day_from_month, le-ltb n (days_in_month (pos y) (suc p)) h) refl

month_last : (y p n : ℕ) → day_from_month zero y (suc p) n ≡ found y p n
unfolding day_from_month
month_last y p n = refl

same_day : (y : ℤ) (p q n r : ℕ) → p ≡ q → n + days_of_months y p ≡ days_of_months y q + r → (p ≡ q) × (n ≡ r)
same_day y p q n r e h = let b : days_of_months y p ≡ days_of_months y q = ap (days_of_months y) e in (e, omega arith)

pub month_found : (k y p n q r : ℕ) → p ≤ q → q ≤ p + k → n + days_of_months (pos y) p ≡ days_of_months (pos y) q + r
    → r < days_in_month (pos y) (suc q)
    → day_from_month k y (suc p) n ≡ found y q r
month_found zero y p n q r from to e small =
    let same = same_day (pos y) p q n r (omega arith) e in
    month_last y p n ∙ rw (same.0, same.1) refl
month_found (suc k) y p n q r from to e small =
    elim (cases_lt p q) [
      | inr last ↦
          let same = same_day (pos y) p q n r (omega arith) e in
          let here : n < days_in_month (pos y) (suc p) = rw (same.0, same.1) small in
          month_here k y p n here ∙ rw (same.0, same.1) refl
      | inl more ↦
          let step = months-suc (pos y) p in
          let high = days_of_months_mono (pos y) (suc p) q more in
          let past : days_in_month (pos y) (suc p) ≤ n = omega arith in
          month_later k y p n past ∙ month_found k y (suc p) (n - days_in_month (pos y) (suc p)) q r more (omega arith)
          (omega arith) small
    ]
