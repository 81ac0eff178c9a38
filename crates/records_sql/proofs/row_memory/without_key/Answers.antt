use Rattle.std.proofs.Common.{sym, subst, ap, ◌∙◌}
use Rattle.records_sql.specs.Words.{AreBounded, AreOthers}
use Rattle.records_sql.specs.Memory.{entries_of, Cache}
use Rattle.records_sql.proofs.AgreeLemmas.{others_left, small_others}
use Rattle.records_sql.proofs.row_memory.without_key.Goals as goal

module _ (c : goal.After-drop) where
  left : AreOthers c.args.key.now c.in_ok-cache.cache.entries c.pop.new.self.entries
  left =
      subst (λ es. AreOthers c.args.key.now c.in_ok-cache.cache.entries es)
      (sym (ap (λ (m : Cache). m.entries) c.pop.ensures.entries))
      (others_left c.args.key.now c.in_ok-cache.cache.entries c.len.ensures.valid.0)

pub returns-clause-others : goal.returns-clause-others
returns-clause-others c =
    subst (λ o. AreOthers c.args.key.now (entries_of o) c.pop.new.self.entries) (sym c.in_ok-cache.was) (left c)

pub returns-clause-bounded : goal.returns-clause-bounded
returns-clause-bounded c =
    let held = subst AreBounded c.in_ok-cache.was c.requires.bounded in (
      ap (λ (m : Cache). m.cap) c.pop.ensures.entries ∙ held.0,
      small_others c.args.key.now c.in_ok-cache.cache.entries c.pop.new.self.entries (left c) held.1,
    )
