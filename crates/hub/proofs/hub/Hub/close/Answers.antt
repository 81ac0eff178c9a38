use Rattle.broker_model.specs.Words.{refl}
use Rattle.hub.specs.Words.{connections_in, hub_connections}
use Rattle.hub.proofs.HubLemmas.{closed_represents, unseen_represents}
use Rattle.hub.proofs.ServingLemmas.{closed_world}
use Rattle.hub.proofs.hub.Hub.close.Goals as goal

pub returns-clause-connections : goal.returns-clause-connections
returns-clause-connections g c = λ all each.
    closed_represents (hub_connections c.args.self.now) (connections_in c.close.new.connections) c.args.conn all each
    c.close.ensures.closed c.close.ensures.unseen c.close.ensures.others

pub returns-clause-unseen : goal.returns-clause-unseen
returns-clause-unseen g c = λ all each none.
    unseen_represents (hub_connections c.args.self.now) (connections_in c.close.new.connections) c.args.conn all each
    c.close.ensures.unseen c.close.ensures.others none

pub returns-clause-worlds : goal.returns-clause-worlds
returns-clause-worlds g c = λ w represents.
    closed_world g.S.Store.seen c.args.conn c.args.self.now
    (record c.args.self.now { connections = c.close.new.connections }) w
    (record { store = refl; connections = returns-clause-connections g c }) represents
