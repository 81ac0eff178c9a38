use Rattle.records.specs.Words.{ap, sym, ◌∙◌, drop, length, map, false_from_ne_true, push_each, push_once, child}
use Rattle.records.specs.Words.{begins_with, begun}
use Rattle.records.proofs.ChildLemmas.{below_one, below_none}
use Rattle.records.proofs.children.push_child.Goals as goal

pub returns-in_ok-push_once : goal.returns-in_ok-push_once
returns-in_ok-push_once c =
    let names = c.args.names.now.items in
    let prefix = c.args.prefix.now in
    let key = c.args.key.now in
    let found = c.in-Some.ensures.cases in
    let rest = found.2 ∙ ap (λ n. drop n key) found.1.0 in
    c.in_ok-push_once.ensures ∙ ap (push_once names) (c.in_ok-name.ensures ∙ ap child rest)
    ∙ sym (ap (λ rs. push_each names (map child rs))
    (below_one prefix key (begins_with prefix key (drop found.0 key) found.1.1)))

pub returns-in_default : goal.returns-in_default
returns-in_default c =
    let names = c.args.names.now.items in
    let prefix = c.args.prefix.now in
    let key = c.args.key.now in
    sym (ap (λ rs. push_each names (map child rs))
    (below_none prefix key
    (false_from_ne_true _ (λ h. c.in_default.ensures.cases (drop (length prefix) key) (begun prefix key h)))))
