use Rattle.std.proofs.Common.{None}
use Rattle.records.specs.Words.{IsHonestStore}
use Rattle.records_sql.specs.Words.{kept_records}
use Rattle.broker_server.proofs.PreparedLemmas.{new_broker}
use Rattle.broker_server.proofs.starting.start_and_serve.Goals as goal

pub serve_ready-requires : goal.serve_ready-requires
serve_ready-requires g c = record {
  sound = λ checks honest. new_broker c.now-moment.result c.words.result
      (kept_records g.S.Store c.args.records).rows (kept_records g.S.Store c.prepare.new.records).rows
      c.in_ok-root.root (c.in_ok-root.ensures.prepared honest) c.requires.empty;
}

pub returns : goal.returns
returns g c =
    let honest : IsHonestStore (kept_records g.S.Store c.prepare.new.records) =
    c.requires.always (record { alloc = c.alloc.result; records = c.prepare.new.records; aids = None }) in
    let broker = new_broker c.now-moment.result c.words.result
    (kept_records g.S.Store c.args.records).rows (kept_records g.S.Store c.prepare.new.records).rows
    c.in_ok-root.root (c.in_ok-root.ensures.prepared honest) c.requires.empty in
    c.serve_ready.ensures c.requires.always (c.in_ok-root.ensures.stands honest) broker.0 broker.1
