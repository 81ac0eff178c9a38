use Rattle.records_sql.specs.Words.{owner_text, key_params}
use Rattle.records_sql.proofs.StateLemmas.{query_fails, shown_ok}
use Rattle.records_sql.proofs.GetLemmas.{owner_reads}
use Rattle.records_sql.proofs.statements.by_owner.Goals as goal

pub returns-clause-reads : goal.returns-clause-reads
returns-clause-reads g c sound active =
    shown_ok _ _ c.query_all.result (λ rows. rows.items) owner_text (key_params (c.args.kind, c.args.owner.now)) _
    (owner_reads _ _ _ c.query_all.ensures.survives sound active (c.args.kind, c.args.owner.now))
    (rw c.key_params.ensures at c.query_all.ensures.ok)

pub returns-clause-stays : goal.returns-clause-stays
returns-clause-stays g c =
    query_fails _ _ _ c.query_all.ensures.survives c.query_all.result owner_text _ c.query_all.ensures.err
