use Rattle.records.specs.Words.{sym, subst, IsShortText}
use Rattle.records.proofs.Spellings.{text_way}
use Rattle.records.proofs.FieldReads.{reads_taken}
use Rattle.records.proofs.field.TextBufFormGlobal.read.Goals as goal

pub returns : goal.returns
returns c =
    let copied = c.in_ok-copied.ensures in
    reads_taken text_way c.in_ok-text.ensures c.in_ok-copied.field-0 copied
    (subst IsShortText (sym copied) c.in_ok-text.ensures.exact.0)
