use Rattle.sqlite.specs.Files.{over_files}
use Rattle.sqlite.specs.WalFiles.{image_at}
use Rattle.records_sql.specs.Words.{kept_records}
use Rattle.broker_server.proofs.FileLemmas.{kept_in, ready_of, refused_for}
use Rattle.broker_server.proofs.files.open_ready.Goals as goal

pub returns-in-Ok-clause-ready : goal.returns-in-Ok-clause-ready
returns-in-Ok-clause-ready g c honest =
    let made = c.make_opened_ready in
    ready_of (image_at g.S.Start) (kept_records over_files c.in-Ok.records)
    (kept_records over_files made.result.0) made.ensures.mismatches c.in-Ok.ensures.found honest c.args.checks
    c.args.moment c.args.words.now made.result.1 (made.ensures.ready honest)

pub returns-in-Ok-clause-refused : goal.returns-in-Ok-clause-refused
returns-in-Ok-clause-refused g c honest =
    let made = c.make_opened_ready in
    refused_for (image_at g.S.Start) (kept_records over_files c.in-Ok.records)
    (kept_records over_files made.result.0) made.ensures.mismatches c.in-Ok.ensures.found honest c.args.checks
    made.result.1 (made.ensures.refused honest)

pub returns-in-Ok-clause-kept : goal.returns-in-Ok-clause-kept
returns-in-Ok-clause-kept g c honest is_open =
    let made = c.make_opened_ready in
    kept_in (image_at g.S.Start) (kept_records over_files c.in-Ok.records)
    (kept_records over_files made.result.0) made.ensures.mismatches c.in-Ok.ensures.found honest
    made.result.1 (made.ensures.kept honest is_open)
