use Rattle.hub.specs.Words.{hub_connections}
use Rattle.hub.proofs.RequestLemmas.{answered_of, none_of}
use Rattle.hub.proofs.hub.Hub.has_request.Goals as goal

pub returns-clause-answered : goal.returns-clause-answered
returns-clause-answered g c = λ none all each.
    answered_of (hub_connections c.args.self.now c.args.conn) (all c.args.conn) (each c.args.conn)
    (c.has_request.ensures.answered none)

pub returns-clause-waits : goal.returns-clause-waits
returns-clause-waits g c = λ all each answered.
    c.has_request.ensures.waits
    (none_of (hub_connections c.args.self.now c.args.conn) (all c.args.conn) (each c.args.conn) answered)
