-- What serving a new broker, or one that was checked, ends with (this project's definition).
use Rattle.records.specs.Words.{⊤}
use Rattle.database_check.specs.declared.defect.Defect.{Defect}
use Rattle.hub.specs.declared.serve.ConnectionFault.{ConnectionFault}
use Rattle.hub.specs.declared.serve.ConnectionFault.TheVariants.{Broker, Read, Write}
use Rattle.broker_server.specs.declared.serve_error.ServeError.{ServeError}
use Rattle.broker_server.specs.declared.serve_error.ServeError.TheVariants.{Unsound, Faulted}

-- a fault of the broker: nothing else was read or written
abbrev pub IsOfBroker : ConnectionFault → Type 0
IsOfBroker (Broker fault) = ⊤
IsOfBroker Read = ⊥
IsOfBroker Write = ⊥

-- if it is a fault, P
abbrev pub IfFaulted : ServeError → (ConnectionFault → Type 0) → Type 0
IfFaulted (Unsound defect) P = ⊤
IfFaulted (Faulted fault) P = P fault

-- if it is a row in trouble, P
abbrev pub IfRefused : ServeError → (Defect → Type 0) → Type 0
IfRefused (Unsound defect) P = P defect
IfRefused (Faulted fault) P = ⊤
