use Rattle.broker_model.specs.Words.{sym, ◌∙◌, ap, option_map, is_some, same, tree, data_of, false≢true, none-some}
use Rattle.broker_model.specs.Words.{same_Some, is_utf8-from_IsUtf8}
use Rattle.soundness.proofs.AnswerLemmas.{on_true}
use Rattle.soundness.proofs.TextLemmas.{printed_object}
use Rattle.serde_json.specs.Find.{as_object}
use Rattle.serde_json.specs.Written.{compact_text}
use Rattle.soundness.proofs.TextWhole.{object_read}
use Rattle.soundness.proofs.texts.is_object.Goals as goal

pub returns-clause-sound : goal.returns-clause-sound
returns-clause-sound c = on_true c.is_same.result (λ one.
    printed_object c.args.text.now (data_of c.in-Some.tree)
    (ap tree (sym c.as_bytes.ensures.value) ∙ sym c.in_ok-tree.ensures ∙ ap (option_map data_of) c.in-Some.is)
    (sym c.holds_object.ensures ∙ c.if-not-holds_object.false)
    (ap (λ z. same z c.args.text.now) (sym (c.as_str.ensures ∙ c.in_ok-printed.ensures.text))
    ∙ sym c.is_same.ensures ∙ one))

pub returns-in_default-clause-whole : goal.returns-in_default-clause-whole
returns-in_default-clause-whole c = λ is.
    let o = object_read c.args.text.now (is_utf8-from_IsUtf8 c.args.text.now c.utf8.text) is in
    absurd (none-some _ (ap (option_map data_of) (sym c.in_default.is) ∙ c.in_ok-tree.ensures
    ∙ ap tree c.as_bytes.ensures.value ∙ o.1))

pub returns-then-not-holds_object-clause-whole : goal.returns-then-not-holds_object-clause-whole
returns-then-not-holds_object-clause-whole c = λ is.
    let o = object_read c.args.text.now (is_utf8-from_IsUtf8 c.args.text.now c.utf8.text) is in
    let one = same_Some _ _ (ap (option_map data_of) (sym c.in-Some.is) ∙ c.in_ok-tree.ensures
    ∙ ap tree c.as_bytes.ensures.value ∙ o.1) in
    absurd (false≢true (sym c.if-not-holds_object.true ∙ c.holds_object.ensures
    ∙ ap (λ d. is_some (as_object d)) one ∙ o.2))

pub returns-clause-whole : goal.returns-clause-whole
returns-clause-whole c = λ is.
    let o = object_read c.args.text.now (is_utf8-from_IsUtf8 c.args.text.now c.utf8.text) is in
    let one = same_Some _ _ (ap (option_map data_of) (sym c.in-Some.is) ∙ c.in_ok-tree.ensures
    ∙ ap tree c.as_bytes.ensures.value ∙ o.1) in
    c.is_same.ensures ∙ ap (λ z. same z c.args.text.now) (c.as_str.ensures ∙ c.in_ok-printed.ensures.text)
    ∙ ap (λ d. same (compact_text d) c.args.text.now) one ∙ o.3
