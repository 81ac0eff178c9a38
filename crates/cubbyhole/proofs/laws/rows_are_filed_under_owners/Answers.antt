use Rattle.cubbyhole.proofs.Filed.{key_tells}
use Rattle.cubbyhole.proofs.FiledRows.{brokers_filed, written_filed, deleted_filed, dropped_filed, owned_alike}
use Rattle.cubbyhole.proofs.FiledRows.{others_stay}
use Rattle.cubbyhole.proofs.laws.rows_are_filed_under_owners.Goals as goal

pub returns-clause-brokers : goal.returns-clause-brokers
returns-clause-brokers c rows b told = brokers_filed rows b told

pub returns-clause-written : goal.returns-clause-written
returns-clause-written c rows t path object filed len = written_filed rows t filed path object len

pub returns-clause-deleted : goal.returns-clause-deleted
returns-clause-deleted c rows t path filed = deleted_filed rows t filed path

pub returns-clause-dropped : goal.returns-clause-dropped
returns-clause-dropped c rows t filed = dropped_filed rows t filed

pub returns-clause-owned : goal.returns-clause-owned
returns-clause-owned c rows t q row filed len at = key_tells rows t filed len q row at

pub returns-clause-alike : goal.returns-clause-alike
returns-clause-alike c rows others t filed also len alike = owned_alike rows others t filed also len alike

pub returns-clause-others : goal.returns-clause-others
returns-clause-others c old new t filed also len keeps = others_stay old new t filed also len keeps
