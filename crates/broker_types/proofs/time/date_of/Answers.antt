use Rattle.std.proofs.Common.{◌≡◌, ◌<◌, ℕ, pos, arith, w64, ◌∙◌, to_z}
use Rattle.broker_types.specs.Words.{to_z_pos}
use Rattle.jiff_core.specs.declared.civil.date.Date.{Date}
use Rattle.jiff_core.specs.Date.{epoch_day, IsYmd}
use Rattle.jiff_core.specs.Span.{IsOnly}
use Rattle.jiff.specs.Types.{Day}
use Rattle.jiff_core.proofs.StandardFacts.{known_days}
use Rattle.jiff.proofs.SpanFacts.{signed_arith, date_add-days, can_add-days}
use Rattle.broker_types.proofs.time.date_of.Goals as goal

-- the first of January 1970 is day 0
epoch : (a : Date) → IsYmd (pos 1970) (pos 1) (pos 1) a → epoch_day a ≡ pos 0
epoch a h =
    let m : a.month ≡ 1 = omega (arith, signed_arith, h.1) in
    let d : a.day ≡ 1 = omega (arith, signed_arith, h.2) in
    rw (h.0, m, d) known_days.0

signed_day : (n : ℕ) → n < 2932897 → to_z w64 n ≡ pos n
signed_day n h = to_z_pos w64 n (omega arith)

pub returns-in-Ok : goal.returns-in-Ok
returns-in-Ok c =
    let day = signed_day c.args.day c.requires in
    let only : IsOnly Day (pos c.args.day) c.days.result = rw day at c.days.ensures in
    c.in-Ok.ensures.value ∙ date_add-days c.date.result (pos c.args.day) c.days.result only
    ∙ rw (epoch c.date.result c.date.ensures) (omega (arith, signed_arith))

pub prove-unreachable-requires : goal.prove-unreachable-requires
prove-unreachable-requires c =
    let day = signed_day c.args.day c.requires in
    let only : IsOnly Day (pos c.args.day) c.days.result = rw day at c.days.ensures in
    let zero = epoch c.date.result c.date.ensures in
    let can = can_add-days c.date.result (pos c.args.day) c.days.result only in
    let within = can.1 (rw zero (omega (arith, signed_arith), omega (arith, signed_arith))) in
    cc (c.in-Err.ensures.succeeds.1 within)
