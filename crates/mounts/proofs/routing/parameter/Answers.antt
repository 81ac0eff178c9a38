use Rattle.std.proofs.Common.{if◌then◌else◌, sym, ap, ◌∙◌, drop, length, [], nat_eq}
use Rattle.records.specs.Words.{starts_with, false_from_ne_true, begins_with, begun, Text}
use Rattle.mounts.proofs.routing.parameter.Goals as goal

-- what follows a text in a path, by whether the path begins with it
behind : Text → Text → Text
behind path literal = if starts_with nat_eq path literal then drop (length literal) path else []

pub returns-in-Some : goal.returns-in-Some
unfolding behind
returns-in-Some c =
    let path = c.args.path.now in
    let literal = c.literal_of.result.now in
    let found = c.in-Some.ensures.cases in
    found.2 ∙ ap (λ n. drop n path) found.1.0
    ∙ sym (ap (λ v. if v then drop (length literal) path else [])
    (begins_with literal path (drop found.0 path) found.1.1))
    ∙ ap (behind path) c.literal_of.ensures

pub returns-in-None : goal.returns-in-None
unfolding behind
returns-in-None c =
    let path = c.args.path.now in
    let literal = c.literal_of.result.now in
    sym (ap (λ v. if v then drop (length literal) path else [])
    (false_from_ne_true _ (λ h. c.in-None.ensures.cases (drop (length literal) path) (begun literal path h))))
    ∙ ap (behind path) c.literal_of.ensures
