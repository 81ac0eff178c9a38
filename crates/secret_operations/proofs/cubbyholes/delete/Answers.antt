use Rattle.broker_model.specs.Words.{refl}
use Rattle.broker_rows.specs.Words.{caller_len, everything, tells_part}
use Rattle.secret_operations.proofs.CubbyholeAnswers.{represents-delete}
use Rattle.secret_operations.proofs.cubbyholes.delete.Goals as goal

pub returns-clause-told : goal.returns-clause-told
returns-clause-told g c x honest b starts fresh =
    let seen = g.T.RecordsTx.seen in
    let old = (seen c.args.tx.now).rows in
    let new = (seen c.delete.new.tx).rows in
    let caller = c.args.caller.now in
    let st = starts.represents in (
      refl,
      represents-delete b old new caller c.args.path.now st
          (c.in_ok-delete.ensures.told honest everything b (tells_part everything b old st)
          (caller_len b old caller st (starts.here caller refl))),
    )
