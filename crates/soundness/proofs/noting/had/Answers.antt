use Rattle.std.proofs.Common.{◌≡◌, sym, ◌∙◌}
use Rattle.broker_model.specs.Words.{id}
use Rattle.soundness.specs.Words.{noted}
use Rattle.soundness.proofs.NotingLemmas.{adds_as}
use Rattle.soundness.proofs.noting.had.Goals as goal

pub returns-clause-adds : goal.returns-clause-adds
returns-clause-adds g c =
    adds_as (λ i. i ≡ id c.in-Some.word) (λ i. c.args.identifier.now ≡ i) (c.args.kind, c.args.key.now)
    (noted c.args.places.now) (noted c.note.new.places) (λ i is. c.in-Some.ensures.sound.1 ∙ sym is)
    c.in_ok-note.ensures.adds
