use Rattle.broker_model.specs.Words.{subst, Waiting, of_none, table_of}
use Rattle.records.specs.declared.kind.Kind.TheVariants as kind
use Rattle.soundness.specs.Words.{IsHad, noted}
use Rattle.soundness.proofs.noting.note_response.Goals as goal

pub returns-in-None-clause-had : goal.returns-in-None-clause-had
returns-in-None-clause-had g c honest =
    let read = c.in-Ok.ensures.exact in
    let rows = table_of (g.T.RecordsTx.seen c.args.tx.now).rows in
    let had = of_none c.in_ok-had.field-0 c.in-None.is (c.in_ok-had.ensures.had honest) in (
      (
        c.in-Ok.waiting,
        (
          read.0,
          subst (λ (w : Waiting). IsHad rows (noted c.had.new.places) (kind.Waiting, c.args.key.now) w.origin)
              c.waiting.view_is had.0,
        ),
        read.1,
      ),
      had.1,
    )
