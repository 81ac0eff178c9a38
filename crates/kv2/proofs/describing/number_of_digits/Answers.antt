use Rattle.records.specs.Words.{ap, sym, ◌∙◌, Some, is_ok, false≢true, ok_inj}
use Rattle.records.specs.DigitLaws.{padded_read}
use Rattle.kv2.proofs.describing.number_of_digits.Goals as goal

pub returns-in-Ok : goal.returns-in-Ok
returns-in-Ok c n small is =
    ap Some (ok_inj (sym c.in-Ok.is ∙ padded_read c.args.digits.now n small is c.parse.result c.parse.ensures.value.0))

pub returns-in-Err : goal.returns-in-Err
returns-in-Err c n small is =
    absurd (false≢true (ap is_ok
    (sym c.in-Err.is ∙ padded_read c.args.digits.now n small is c.parse.result c.parse.ensures.value.0)))
