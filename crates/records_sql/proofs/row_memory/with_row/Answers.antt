use Rattle.std.proofs.Common.{◌⊎◌, inl, inr, Some, Result, Ok, Err, OnOk, OnErr, sym, subst, ap, ◌∙◌}
use Rattle.records.specs.Words.{All-nil}
use Rattle.records_sql.specs.Words.{AreBounded, AreFound, IsFound}
use Rattle.records_sql.specs.Memory.{entries_of, Cache}
use Rattle.records_sql.proofs.AgreeLemmas.{still_bounded, still_found}
use Rattle.records_sql.proofs.row_memory.with_row.Goals.{in-Some, in-None+in_ok-cache-in-None}
use Rattle.records_sql.proofs.row_memory.with_row.Goals as goal

-- one of both holds
either : {T E P Q : Type 0} (r : Result T E) → OnOk r P → OnErr r Q → P ⊎ Q
either (Ok x) p q = inl p
either (Err e) p q = inr q

pub returns-clause-found : goal.returns-clause-found
returns-clause-found c rows found is =
    still_found c.match-cache.cache c.args.key c.args.remembered c.put.new.self rows
    (either c.put.result c.put.ensures.entries c.put.ensures.err)
    (elim c.match-cache.branch [
      | in-Some w ↦ subst (λ o. AreFound (entries_of o) rows)
          (w.in-Some.is ∙ ap (λ (m : Cache). Some m) (sym w.cache-is)) found
      | in-None+in_ok-cache-in-None w ↦ subst (λ es. AreFound es rows)
          (sym (ap (λ (m : Cache). m.entries) w.cache-is ∙ w.in_ok-cache-in-None.ensures.empty))
          (All-nil (IsFound rows))
    ])
    is

pub returns-clause-bounded : goal.returns-clause-bounded
returns-clause-bounded c =
    still_bounded c.match-cache.cache c.args.key c.args.remembered c.put.new.self
    (either c.put.result c.put.ensures.entries c.put.ensures.err)
    (elim c.match-cache.branch [
      | in-Some w ↦ subst AreBounded (w.in-Some.is ∙ ap (λ (m : Cache). Some m) (sym w.cache-is)) c.requires.bounded
      | in-None+in_ok-cache-in-None w ↦ subst (λ m. AreBounded (Some m)) (sym w.cache-is)
          w.in_ok-cache-in-None.ensures.bounded
    ])
    c.requires.small
