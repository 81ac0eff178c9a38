use Rattle.records_sql.specs.Words.{kept_records}
use Rattle.broker_server.proofs.FileLemmas.{of_ok}
use Rattle.broker_server.proofs.files.serve_if_ready.Goals as goal

pub serve-requires : goal.serve-requires
serve-requires g c honest =
    of_ok (g.V.Serving.may c.args.serving (kept_records g.S.Store c.args.records).rows) c.args.ready c.in-Ok.root
    c.in-Ok.is (c.requires honest)
