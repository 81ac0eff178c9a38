use Rattle.records_sql.specs.Words.{get_text, key_params}
use Rattle.records_sql.proofs.StateLemmas.{query_fails, shown_ok}
use Rattle.records_sql.proofs.GetLemmas.{get_reads, asks}
use Rattle.records_sql.proofs.statements.get.Goals as goal

pub returns-clause-reads : goal.returns-clause-reads
returns-clause-reads g c sound active =
    shown_ok _ _ c.query_all.result (λ rows. rows.items) get_text (key_params (c.args.kind, c.args.key.now)) _
    (get_reads _ _ _ c.query_all.ensures.survives sound active (c.args.kind, c.args.key.now))
    (rw c.key_params.ensures at c.query_all.ensures.ok)

pub returns-clause-asked : goal.returns-clause-asked
returns-clause-asked g c sound =
    shown_ok _ _ c.query_all.result (λ rows. rows.items) get_text (key_params (c.args.kind, c.args.key.now)) _
    (asks _ _ _ c.query_all.ensures.survives sound (c.args.kind, c.args.key.now))
    (rw c.key_params.ensures at c.query_all.ensures.ok)

pub returns-clause-stays : goal.returns-clause-stays
returns-clause-stays g c =
    query_fails _ _ _ c.query_all.ensures.survives c.query_all.result get_text _ c.query_all.ensures.err
