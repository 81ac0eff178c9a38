use Rattle.broker_model.specs.Words.{ap, ◌∙◌, cond, Some, nat_cmp, is_eq, Text}
use Rattle.soundness.specs.Words.{noted}
use Rattle.soundness.proofs.NotingLemmas.{note_adds}
use Rattle.soundness.proofs.noting.note.Goals as goal

pub returns-clause-adds : goal.returns-clause-adds
returns-clause-adds c =
    note_adds (noted c.args.places.now) (noted c.insert.new.self) c.args.word (c.args.kind, c.args.key.now)
    (λ q.
    c.in_ok-old.ensures.updates.0 q
    ∙ ap (λ (t : Text). cond (is_eq (nat_cmp c.args.word q)) (Some (c.args.kind, t)) (noted c.args.places.now q))
    c.in_ok-key.ensures)
