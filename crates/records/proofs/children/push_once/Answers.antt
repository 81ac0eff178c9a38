use Rattle.std.specs.Prelude.{◌≡◌, ◌-◌, ◌++◌, ◌∷◌, if◌then◌else◌, [], true, false, length, slice_get, string_bytes}
use Rattle.records.specs.Words.{ap, sym, ◌∙◌, is_text}
use Rattle.records.proofs.children.push_once.Goals as goal

pub returns-then-is_last : goal.returns-then-is_last
returns-then-is_last c =
    let texts = c.args.texts.now.items in
    let text = string_bytes c.args.text in
    let last : is_text text (slice_get texts (length texts - 1)) ≡ true =
    sym (λ i. is_text (c.as_str.ensures.value i)
    (slice_get (c.deref.ensures.value i) (length (c.deref.ensures.value i) - 1))) ∙ sym c.is_last.ensures
    ∙ c.if-is_last.true in
    sym (ap (λ v. if v then texts else texts ++ text ∷ []) last)

pub returns : goal.returns
returns c =
    let texts = c.args.texts.now.items in
    let text = string_bytes c.args.text in
    let other : is_text text (slice_get texts (length texts - 1)) ≡ false =
    sym (λ i. is_text (c.as_str.ensures.value i)
    (slice_get (c.deref.ensures.value i) (length (c.deref.ensures.value i) - 1))) ∙ sym c.is_last.ensures
    ∙ c.if-is_last.false in
    c.in_ok-push.ensures.items ∙ ap (λ t. texts ++ t ∷ []) c.new.ensures
    ∙ sym (ap (λ v. if v then texts else texts ++ text ∷ []) other)
