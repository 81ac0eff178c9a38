-- Whether a request waits on a connection for its reply (this project's definition).
use Rattle.broker_model.specs.Words.{Option, Some, None, ⊤}
use Rattle.http_layer.specs.Words.{IsFront, need}
use Rattle.hub.specs.declared.connection.Connection.{Connection}
use Rattle.hub.specs.declared.connection.Connection.TheVariants.{Open, Closed}

-- none waits: the connection was not seen, or is closed, or the next request needs more bytes
abbrev pub HasNoRequest : Option Connection → Type 0
HasNoRequest None = ⊤
HasNoRequest (Some (Open bytes)) = IsFront bytes need
HasNoRequest (Some Closed) = ⊤
