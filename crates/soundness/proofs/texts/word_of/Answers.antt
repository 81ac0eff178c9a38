use Rattle.broker_model.specs.Words.{sym, ◌∙◌, ap, to_be_bytes, w128, false≢true, bytes_eq-Decides, id, reads_back}
use Rattle.uuid.specs.Text.{parsed}
use Rattle.soundness.proofs.TextWhole.{word_back}
use Rattle.soundness.proofs.texts.word_of.Goals as goal

pub returns-in_default-clause-whole : goal.returns-in_default-clause-whole
returns-in_default-clause-whole c = λ i.
    false≢true (c.in_default.ensures.ok.1 (to_be_bytes w128 i.0, ap parsed i.2 ∙ sym (reads_back i.0)))

pub returns-else-eq-clause-whole : goal.returns-else-eq-clause-whole
returns-else-eq-clause-whole c = λ i.
    let word = c.as_u128-word.ensures ∙ word_back i.0 _ i.1 (c.in-Ok.ensures.bytes ∙ ap parsed i.2) in
    let printed = c.as_slice.ensures ∙ c.id_bytes-printed.ensures ∙ ap id word ∙ sym i.2 in
    false≢true (sym c.if-eq.false ∙ c.eq.ensures
    ∙ (bytes_eq-Decides c.as_bytes.result.now c.as_slice.result.now).1 (c.as_bytes.ensures.value ∙ sym printed))
