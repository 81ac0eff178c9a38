use Rattle.std.proofs.Common.{◌≡◌, ◌∙◌, ap}
use Rattle.broker_model.specs.Words.{token_text}
use Rattle.soundness.specs.Words.{noted}
use Rattle.soundness.proofs.NotingLemmas.{adds_as, ok_as}
use Rattle.soundness.proofs.noting.note_token.Goals as goal

pub returns-in-Some-clause-adds : goal.returns-in-Some-clause-adds
returns-in-Some-clause-adds g c =
    ok_as c.had.result
    (adds_as (λ i. c.in-Some.identifier.now ≡ i) (λ i. c.args.key.now ≡ token_text i) (c.args.kind, c.args.key.now)
    (noted c.args.places.now) (noted c.had.new.places) (λ i is. c.in-Some.ensures.sound ∙ ap token_text is))
    c.had.ensures.adds
