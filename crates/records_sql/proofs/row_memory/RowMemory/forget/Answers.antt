use Rattle.records.specs.Words.{sym, subst, remove, RowKey}
use Rattle.records_sql.specs.Words.{IsCalmUntil}
use Rattle.records_sql.proofs.AgreeLemmas.{found_removed, calm_removed}
use Rattle.records_sql.proofs.row_memory.RowMemory.forget.Goals as goal

pub returns : goal.returns
returns c rows agrees =
    let q : RowKey = (c.args.kind, c.args.key.now) in
    record {
      entries = found_removed rows c.args.self.now.entries agrees.entries q _ c.drop_key.ensures.others;
      calm = subst (λ n. IsCalmUntil n (remove rows q)) (sym c.drop_key.ensures.calm)
          (calm_removed rows q c.args.self.now.calm_until agrees.calm);
    }
