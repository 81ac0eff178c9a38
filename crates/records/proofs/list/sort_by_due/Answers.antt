use Rattle.records.specs.Words.{rules, is_lt, answers_always, RowKey, due_cmp, Row}
use Rattle.records.proofs.DueLemmas.{due_total, weak}
use Rattle.records.proofs.list.sort_by_due.Goals as goal

pub returns-clause-sorted : goal.returns-clause-sorted
returns-clause-sorted c =
    c.in_ok-sort_by.ensures.sorted (λ (x y : RowKey × Row). is_lt (due_cmp x y)) (weak due_total)
    (answers_always _ _ _ (λ f a r g called. search rules))
