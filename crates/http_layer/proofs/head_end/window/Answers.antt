use Rattle.broker_types.specs.Words.{◌∙◌, ap, take, ℕ, take_min}
use Rattle.http_layer.specs.Words.{longest_head}
use Rattle.http_layer.proofs.head_end.window.Goals as goal

pub returns : goal.returns
returns c = ap (λ (n : ℕ). take n c.args.bytes.now) c.min.ensures ∙ take_min longest_head c.args.bytes.now
