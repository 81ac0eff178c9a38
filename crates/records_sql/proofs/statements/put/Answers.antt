use Rattle.records_sql.proofs.StateLemmas.{run_fails}
use Rattle.records_sql.proofs.TxLemmas.{put_changes}
use Rattle.records_sql.proofs.statements.put.Goals as goal

pub returns-clause-changes : goal.returns-clause-changes
returns-clause-changes g c sound active =
    put_changes _ _ _ c.execute.ensures.survives sound active (c.args.kind, c.args.key.now) c.args.row.now
    c.execute.result (rw c.put_params.ensures at c.execute.ensures.runs)

pub returns-clause-stays : goal.returns-clause-stays
returns-clause-stays g c = run_fails _ _ _ c.execute.ensures.survives _ _ c.execute.result c.execute.ensures.runs
