use Rattle.std.proofs.Common.{◌≡◌, ◌==◌, ◌++◌, ◌∷◌, [], ap, sym, ◌∙◌, length, arith}
use Rattle.records.specs.Words.{position_or_len, split_once_first, slash, IfOk-weaker}
use Rattle.records.proofs.ChildLemmas.{child-whole, child-folder}
use Rattle.records.proofs.children.child_of.Goals as goal

pub returns-in-None : goal.returns-in-None
returns-in-None c =
    let path = c.args.path.now in
    let whole : position_or_len (λ b. b == slash) path
    ≡ length path = rw c.in-None.is at
    (split_once_first slash path c.split_once.result c.split_once.ensures.cases (omega arith)) in
    IfOk-weaker c.from_str.result _ _ (λ text e. e ∙ sym (child-whole path whole)) c.from_str.ensures.ok

pub returns-in_ok-push_str-in-Some : goal.returns-in_ok-push_str-in-Some
returns-in_ok-push_str-in-Some c =
    let path = c.args.path.now in
    let (inside, front, back) =
    rw c.in-Some.is at (split_once_first slash path c.split_once.result c.split_once.ensures.cases (omega arith)) in
    c.in_ok-push_str-in-Some.ensures.bytes ∙ ap (λ t. t ++ slash ∷ []) (c.in_ok-text-in-Some.ensures.ok ∙ front)
    ∙ sym (child-folder path inside)
