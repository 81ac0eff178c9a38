use Rattle.std.proofs.Common.{◌+◌, ◌-◌, ◌++◌, replicate, ap, ◌∙◌}
use Rattle.records.specs.DigitLaws.{zeros_more}
use Rattle.kv2.proofs.keys.version_key.Goals as goal

pub loop-place-preserved : goal.loop-place-preserved
loop-place-preserved c = ap (λ s. s ++ replicate (20 - (c.loop-place.place + 1)) 48) c.in_ok-push_str.ensures.bytes
    ∙ zeros_more _ c.loop-place.place c.loop-place-test.true ∙ c.loop-place.invariant
