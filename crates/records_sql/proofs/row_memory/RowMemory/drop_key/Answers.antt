use Rattle.std.proofs.Common.{subst, ap, ◌∙◌}
use Rattle.records_sql.specs.Words.{Memory, AreOthers}
use Rattle.records_sql.specs.Memory.{entries_of}
use Rattle.records_sql.proofs.row_memory.RowMemory.drop_key.Goals as goal

pub returns-clause-others : goal.returns-clause-others
returns-clause-others c =
    subst (λ old. AreOthers c.args.key.now old (entries_of c.without_key.result))
    (ap entries_of c.take.ensures.value ∙ ap (λ (m : Memory). m.entries) c.self.view_is)
    c.without_key.ensures.others
