use Rattle.std.proofs.Common.{◌≡◌, ◌==◌, ◌++◌, ◌∷◌, ◌+◌, [], ap, sym, ◌∙◌, length, arith, append_assoc}
use Rattle.records.specs.Words.{position_or_len, before_first, split_once_first, slash}
use Rattle.records.proofs.ChildLemmas.{past-whole, past-folder}
use Rattle.records.proofs.children.past_child.Goals as goal

pub returns-in_ok-push_str-in-None-2 : goal.returns-in_ok-push_str-in-None-2
returns-in_ok-push_str-in-None-2 c =
    let name = c.args.name.now in
    let prefix = c.args.prefix.now in
    let whole : position_or_len (λ b. b == slash) name
    ≡ length name = rw c.in-None.is at
    (split_once_first slash name c.split_once.result c.split_once.ensures.cases (omega arith)) in
    c.in_ok-push_str-in-None-2.ensures.bytes
    ∙ ap (λ t. t ++ 0 ∷ []) (c.in_ok-push_str-in-None.ensures.bytes ∙ ap (λ t. t ++ name) c.in_ok-text.ensures.ok)
    ∙ append_assoc prefix name (0 ∷ []) ∙ ap (λ t. prefix ++ t) (sym (past-whole name whole))

pub returns-in_ok-push_str-in-Some-2 : goal.returns-in_ok-push_str-in-Some-2
returns-in_ok-push_str-in-Some-2 c =
    let name = c.args.name.now in
    let prefix = c.args.prefix.now in
    let (inside, front, back) =
    rw c.in-Some.is at (split_once_first slash name c.split_once.result c.split_once.ensures.cases (omega arith)) in
    c.in_ok-push_str-in-Some-2.ensures.bytes
    ∙ ap (λ t. t ++ (slash + 1) ∷ [])
    (c.in_ok-push_str-in-Some.ensures.bytes ∙ (λ i. c.in_ok-text.ensures.ok i ++ front i))
    ∙ append_assoc prefix (before_first (λ b. b == slash) name) ((slash + 1) ∷ [])
    ∙ ap (λ t. prefix ++ t) (sym (past-folder name inside))
