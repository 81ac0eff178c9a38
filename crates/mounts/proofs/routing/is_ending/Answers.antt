use Rattle.std.proofs.Common.{◌≡◌, ◌==◌, ◌&&◌, ◌||◌, ◌∷◌, if◌then◌else◌, refl, sym, ap, ◌∙◌, arith, length, ℕ, suc, []}
use Rattle.records.specs.Words.{Bool, true, false, not, nat_eq, Some, starts_with, nat_tests, starts_text, Text, slash}
use Rattle.records.specs.Words.{split_once, lacks, none_of}
use Rattle.mounts.specs.Words.{cut_none, cut_some, nothing, segment, segments, form_of, form_from, is_ending}
use Rattle.mounts.specs.Words.{open_brace, star}
use Rattle.mounts.proofs.routing.is_ending.Goals as goal

not_zero : (n : ℕ) → (suc n == 0) ≡ false
not_zero n = grind (arith, nat_tests)

-- without a parameter
none : (text : Text) → (length text == 0) ≡ is_ending nothing text
none [] = refl
none (x ∷ text) = not_zero (length text)

-- with one, of many segments or of one
some : (many : Bool) (text : Text) → is_ending (if many then segments else segment) text
    ≡ (not (length text == 0) && (many || lacks slash text))
some true [] = refl
some true (x ∷ text) = sym (ap (λ b. not b && true) (not_zero (length text)))
some false [] = refl
some false (x ∷ text) = sym (ap (λ b. not b && lacks slash (x ∷ text)) (not_zero (length text)))

by_star : (pattern text : Text) (p : Text × Text) (many : Bool) → split_once open_brace pattern ≡ Some p
    → many ≡ starts_with nat_eq p.1 (star ∷ [])
    → is_ending (form_of pattern).ending text ≡ (not (length text == 0) && (many || lacks slash text))
by_star pattern text p many is starts =
    ap (λ o. is_ending (form_from pattern o).ending text) is
    ∙ ap (λ v. is_ending (if v then segments else segment) text) (sym starts) ∙ some many text

pub returns-in_default : goal.returns-in_default
returns-in_default c =
    let text = c.args.text.now in
    let pattern = c.args.pattern.now in
    c.is_empty.ensures ∙ none text ∙ sym (ap (λ o. is_ending (form_from pattern o).ending text)
    (cut_none open_brace (omega arith) pattern c.split_once.result c.split_once.ensures.cases
    (none_of _ c.in_default.not-Some)))

pub returns-then-starts_with : goal.returns-then-starts_with
returns-then-starts_with c =
    let text = c.args.text.now in
    let pattern = c.args.pattern.now in
    let is = cut_some open_brace (omega arith) pattern c.split_once.result c.split_once.ensures.cases
    (c.in-Some.field-0-0, c.in-Some.parameter) c.in-Some.is in
    let starts = starts_text c.starts_with.result (star ∷ []) c.in-Some.parameter.now c.starts_with.ensures.cases in
    c.if-starts_with.true
    ∙ sym (by_star pattern text (c.in-Some.field-0-0.now, c.in-Some.parameter.now) true is
    (sym c.if-starts_with.true ∙ starts)
    ∙ ap (λ b. not b && true) (sym c.is_empty-2.ensures ∙ c.if-not-is_empty.true))

pub returns-else-starts_with : goal.returns-else-starts_with
returns-else-starts_with c =
    let text = c.args.text.now in
    let pattern = c.args.pattern.now in
    let is = cut_some open_brace (omega arith) pattern c.split_once.result c.split_once.ensures.cases
    (c.in-Some.field-0-0, c.in-Some.parameter) c.in-Some.is in
    let starts = starts_text c.starts_with.result (star ∷ []) c.in-Some.parameter.now c.starts_with.ensures.cases in
    c.lacks_slash.ensures
    ∙ sym (by_star pattern text (c.in-Some.field-0-0.now, c.in-Some.parameter.now) false is
    (sym c.if-starts_with.false ∙ starts)
    ∙ ap (λ b. not b && lacks slash text) (sym c.is_empty-2.ensures ∙ c.if-not-is_empty.true))

pub returns-else-not-is_empty : goal.returns-else-not-is_empty
returns-else-not-is_empty c =
    let text = c.args.text.now in
    let pattern = c.args.pattern.now in
    let is = cut_some open_brace (omega arith) pattern c.split_once.result c.split_once.ensures.cases
    (c.in-Some.field-0-0, c.in-Some.parameter) c.in-Some.is in
    let many = starts_with nat_eq c.in-Some.parameter.now (star ∷ []) in
    ap not c.if-not-is_empty.false
    ∙ sym (by_star pattern text (c.in-Some.field-0-0.now, c.in-Some.parameter.now) many is refl
    ∙ ap (λ b. not b && (many || lacks slash text)) (sym c.is_empty-2.ensures ∙ c.if-not-is_empty.false))
