use Rattle.sqlite.specs.Files.{over_files}
use Rattle.records.specs.Words.{IfOk-weaker}
use Rattle.records_sql.specs.Words.{kept_records}
use Rattle.broker_server.proofs.files.serve_from.Goals as goal

pub serve_if_ready-requires : goal.serve_if_ready-requires
serve_if_ready-requires g c honest =
    IfOk-weaker c.in_ok-records.ready _ _
    (λ root ready. c.requires (kept_records over_files c.in_ok-records.records).rows root ready)
    (c.in_ok-records.ensures.ready honest)
