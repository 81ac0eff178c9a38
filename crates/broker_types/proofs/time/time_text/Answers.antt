use Rattle.std.proofs.Common.{◌≡◌, ◌/◌, ◌%◌, ◌∷◌, ◌++◌, ℕ, List, [], ◌∙◌, pos, refl, string_bytes}
use Rattle.broker_types.specs.Words.{IfOk-weaker, time_text, IsClock}
use Rattle.jiff.specs.Types.{DateTime}
use Rattle.jiff.specs.Words.{epoch_day}
use Rattle.jiff.specs.Names.{iso_datetime_text}
use Rattle.broker_types.proofs.Dates.{civil_of_date}
use Rattle.broker_types.proofs.time.time_text.Goals as goal

shows : (n : ℕ) (dt : DateTime) (text : List ℕ) → epoch_day dt.date ≡ pos (n / 86400) → IsClock (n % 86400) dt.time
    → text ≡ iso_datetime_text dt ++ 90 ∷ [] → text ≡ time_text n
shows n dt text day clock e =
    let found = civil_of_date dt.date.year dt.date.month dt.date.day (n / 86400)
    (dt.date.year_in, dt.date.month_in, dt.date.day_in) day in
    e ∙ rw (clock.0, clock.1, clock.2, clock.3, ← found.0, ← found.1, ← found.2) refl

pub returns : goal.returns
returns c =
    let k = c.from_parts-shown.ensures in
    IfOk-weaker c.format.result _ _
    (λ s e. shows c.args.seconds c.from_parts-shown.result (string_bytes s) (rw k.date c.date_of.ensures)
    (rw k.time c.clock_of.ensures) e) c.format.ensures.ok
