use Rattle.std.proofs.Common.{◌*◌, ◌+◌, ◌∙◌, sym, ap, min, ℕ}
use Rattle.http_layer.proofs.LengthLemmas.{capped_more}
use Rattle.http_layer.proofs.length.capped_number.Goals as goal

pub loop-b-preserved : goal.loop-b-preserved
loop-b-preserved c =
    capped_more c.args.digits.now c.loop-b.b-index c.loop-b.value c.loop-b-test.true c.loop-b.invariant.0
    c.loop-b.invariant.1
    (sym c.is_ascii_digit.ensures.value ∙ c.if-not-is_ascii_digit.false) c.min-value.result
    (c.min-value.ensures ∙ ap (λ (n : ℕ). min (10 * c.loop-b.value + n) 1048577) c.from.ensures)
