use Rattle.records.specs.Words.{inl}
use Rattle.broker_server.proofs.starting.serve_named.Goals as goal

pub serve_from-requires : goal.serve_from-requires
serve_from-requires c rows root ready checks = ready.2.sound (inl checks)
