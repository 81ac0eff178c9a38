use Rattle.std.proofs.Common.{◌&&◌, sym, ap, ◌∙◌, drop, length, Bool, nat_eq}
use Rattle.records.specs.Words.{starts_with, false_from_ne_true, begins_with, begun, Text}
use Rattle.mounts.specs.Words.{Ending, form_of, is_ending}
use Rattle.mounts.proofs.routing.has_form.Goals as goal

-- whether a path is a text and what stands behind it
formed : Ending → Text → Text → Bool
formed ending path literal = starts_with nat_eq path literal && is_ending ending (drop (length literal) path)

pub returns-in-Some : goal.returns-in-Some
unfolding formed
returns-in-Some c =
    let path = c.args.path.now in
    let literal = c.literal_of.result.now in
    let ending = (form_of c.args.pattern.now).ending in
    let found = c.in-Some.ensures.cases in
    c.is_ending.ensures ∙ ap (is_ending ending) (found.2 ∙ ap (λ n. drop n path) found.1.0)
    ∙ sym (ap (λ v. v && is_ending ending (drop (length literal) path))
    (begins_with literal path (drop found.0 path) found.1.1))
    ∙ ap (formed ending path) c.literal_of.ensures

pub returns-in-None : goal.returns-in-None
unfolding formed
returns-in-None c =
    let path = c.args.path.now in
    let literal = c.literal_of.result.now in
    let ending = (form_of c.args.pattern.now).ending in
    sym (ap (λ v. v && is_ending ending (drop (length literal) path))
    (false_from_ne_true _ (λ h. c.in-None.ensures.cases (drop (length literal) path) (begun literal path h))))
    ∙ ap (formed ending path) c.literal_of.ensures
