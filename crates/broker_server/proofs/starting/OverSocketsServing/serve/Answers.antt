use Rattle.broker_server.proofs.starting.OverSocketsServing.serve.Goals as goal

pub serve_ready-requires : goal.serve_ready-requires
serve_ready-requires g c = record { sound = λ checks honest. c.requires honest checks }
