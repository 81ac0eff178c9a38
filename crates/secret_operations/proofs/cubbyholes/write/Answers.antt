use Rattle.broker_model.specs.Words.{refl}
use Rattle.broker_rows.specs.Words.{caller_len, everything, tells_part}
use Rattle.secret_operations.proofs.CubbyholeAnswers.{represents-write}
use Rattle.secret_operations.proofs.cubbyholes.write.Goals as goal

pub returns-clause-told : goal.returns-clause-told
returns-clause-told g c good x honest b starts fresh =
    let seen = g.T.RecordsTx.seen in
    let old = (seen c.args.tx.now).rows in
    let new = (seen c.write.new.tx).rows in
    let caller = c.args.caller.now in
    let st = starts.represents in
    let here = starts.here caller refl in
    let kept = c.requires in (
      refl,
      represents-write b old new caller c.args.path.now c.args.text.now st (record { good = good; utf8 = c.utf8.path })
          (record { object = kept.object; short = record { utf8 = c.utf8.text; short = kept.short } })
          (c.in_ok-write.ensures.told honest everything b (tells_part everything b old st) here
          (caller_len b old caller st here)),
    )
