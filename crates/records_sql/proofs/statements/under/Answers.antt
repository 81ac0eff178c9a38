use Rattle.records.specs.Words.{option_copied}
use Rattle.records_sql.specs.Words.{under_text, under_params}
use Rattle.records_sql.proofs.StateLemmas.{query_fails, shown_ok}
use Rattle.records_sql.proofs.GetLemmas.{under_reads}
use Rattle.records_sql.proofs.statements.under.Goals as goal

pub returns-clause-reads : goal.returns-clause-reads
returns-clause-reads g c above sound active =
    shown_ok _ _ c.query_all.result (λ rows. rows.items)
    under_text (under_params (c.args.kind, c.args.prefix.now) (option_copied c.args.bound)) _
    (under_reads _ _ _ c.query_all.ensures.survives sound active
    (c.args.kind, c.args.prefix.now) (option_copied c.args.bound) above)
    (rw c.under_params.ensures at c.query_all.ensures.ok)

pub returns-clause-stays : goal.returns-clause-stays
returns-clause-stays g c =
    query_fails _ _ _ c.query_all.ensures.survives c.query_all.result under_text _ c.query_all.ensures.err
