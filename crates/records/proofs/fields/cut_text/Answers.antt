use Rattle.records.specs.Words.{arith, sym, subst, ◌∙◌, IsUtf8}
use Rattle.records.proofs.FieldReads.{cut_short, cut_bad, cut_whole}
use Rattle.records.proofs.fields.cut_text.Goals as goal

pub returns-then-bytes-len : goal.returns-then-bytes-len
returns-then-bytes-len c = cut_short c.args.bytes.now c.args.len c.if-bytes-len.true

pub returns-in-Ok : goal.returns-in-Ok
returns-in-Ok c =
    let same = c.in-Ok.ensures.cases.0 in
    cut_whole c.args.bytes.now c.args.len _ _ (same ∙ c.split_at.ensures.front) c.split_at.ensures.back
    (omega (arith, c.if-bytes-len.false))
    (subst IsUtf8 (sym same) c.in-Ok.ensures.cases.1)

pub returns-in-Err : goal.returns-in-Err
returns-in-Err c = cut_bad c.args.bytes.now c.args.len _ _ c.split_at.ensures.front c.split_at.ensures.back
    c.in-Err.ensures.cases.0
