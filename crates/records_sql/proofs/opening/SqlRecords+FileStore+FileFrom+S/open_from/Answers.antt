use Rattle.records.specs.Words.{arith}
use Rattle.sqlite.specs.Files.{file_state}
use Rattle.sqlite.specs.State.{HasCleanDisk}
use Rattle.records_sql.proofs.AdoptLemmas.{if_both, kept_in}
use Rattle.records_sql.proofs.opening.SqlRecords+FileStore+FileFrom+S.open_from.Goals as goal

pub returns-clause-found : goal.returns-clause-found
returns-clause-found g c =
    let was = file_state c.in_ok-conn.conn in
    if_both c.adopt.result (λ records found less clean.
    let before : HasCleanDisk was = omega (arith, less, clean) in
    kept_in _ was (file_state records.conn) (c.in_ok-conn.ensures.found before) (c.in_ok-conn.ensures.opened before)
    (found clean))
    c.adopt.ensures.found c.adopt.ensures.mismatches
