use Rattle.records_sql.specs.Words.{due_text, due_params}
use Rattle.records_sql.proofs.StateLemmas.{query_fails, shown_ok}
use Rattle.records_sql.proofs.GetLemmas.{due_reads}
use Rattle.records_sql.proofs.statements.due_until.Goals as goal

pub returns-clause-reads : goal.returns-clause-reads
returns-clause-reads g c sound active =
    shown_ok _ _ c.query_all.result (λ rows. rows.items) due_text (due_params c.args.moment) _
    (due_reads _ _ _ c.query_all.ensures.survives sound active c.args.moment)
    (rw c.due_params.ensures at c.query_all.ensures.ok)

pub returns-clause-stays : goal.returns-clause-stays
returns-clause-stays g c =
    query_fails _ _ _ c.query_all.ensures.survives c.query_all.result due_text _ c.query_all.ensures.err
