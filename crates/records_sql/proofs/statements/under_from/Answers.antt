use Rattle.records.specs.Words.{option_copied}
use Rattle.records_sql.specs.Words.{from_text, from_params}
use Rattle.records_sql.proofs.StateLemmas.{query_fails, shown_ok}
use Rattle.records_sql.proofs.GetLemmas.{from_reads}
use Rattle.records_sql.proofs.statements.under_from.Goals as goal

pub returns-clause-reads : goal.returns-clause-reads
returns-clause-reads g c prefix least above later sound active =
    shown_ok _ _ c.query_all.result (λ rows. rows.items)
    from_text (from_params (c.args.kind, c.args.from.now) (option_copied c.args.bound) c.args.count) _
    (from_reads _ _ _ c.query_all.ensures.survives sound active (c.args.kind, prefix) least c.args.from.now
    (option_copied c.args.bound) c.args.count above later)
    (rw c.from_params.ensures at c.query_all.ensures.ok)

pub returns-clause-stays : goal.returns-clause-stays
returns-clause-stays g c =
    query_fails _ _ _ c.query_all.ensures.survives c.query_all.result from_text _ c.query_all.ensures.err
