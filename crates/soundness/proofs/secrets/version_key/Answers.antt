use Rattle.std.proofs.Common.{◌+◌, ◌-◌, ◌++◌, replicate, ap, ◌∙◌}
use Rattle.broker_model.specs.Words.{zeros_more}
use Rattle.soundness.proofs.secrets.version_key.Goals as goal

pub loop-place-preserved : goal.loop-place-preserved
loop-place-preserved c =
    ap (λ s. s ++ replicate (20 - (c.loop-place.place + 1)) 48) c.in_ok-push_str-2.ensures.bytes
    ∙ zeros_more _ c.loop-place.place c.loop-place-test.true ∙ c.loop-place.invariant
