use Rattle.records_sql.specs.Words.{upto_text, upto_params}
use Rattle.records_sql.proofs.StateLemmas.{query_fails, shown_ok}
use Rattle.records_sql.proofs.GetLemmas.{upto_reads}
use Rattle.records_sql.proofs.statements.under_upto.Goals as goal

pub returns-clause-reads : goal.returns-clause-reads
returns-clause-reads g c sound active =
    shown_ok _ _ c.query_all.result (λ rows. rows.items)
    upto_text (upto_params (c.args.kind, c.args.prefix.now) c.args.last.now) _
    (upto_reads _ _ _ c.query_all.ensures.survives sound active (c.args.kind, c.args.prefix.now) c.args.last.now)
    (rw c.upto_params.ensures at c.query_all.ensures.ok)

pub returns-clause-stays : goal.returns-clause-stays
returns-clause-stays g c =
    query_fails _ _ _ c.query_all.ensures.survives c.query_all.result upto_text _ c.query_all.ensures.err
