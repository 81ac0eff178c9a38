-- What serving an ask leaves (this project's definition).
use Rattle.records.specs.Words.{List, Bool, Option, Some, None, Result, Ok, Text, Broker, Names, ◌>>=◌, spend, Ask}
use Rattle.records.specs.Words.{Refusal}
use Rattle.broker_model.specs.Act.{act}
use Rattle.broker_model.specs.Command.{Command}
use Rattle.broker_model.specs.Order.{Outcome, Wrapped, carried_out, finish, needed, serve, wrapped, wraps}
use Rattle.broker_model.specs.Permission.{permits}
use Rattle.broker_model.specs.Step.{traits, request_of}

-- whether an ask needs no caller
abbrev pub is_open : Ask → Bool
is_open a = (request_of a).is_open

-- whether the reply to a command of an ask is wrapped
abbrev pub is_wrapped : Ask → Command → Bool
is_wrapped a command = wraps permits traits act (request_of a) command

-- the identifiers that a command of an ask needs
abbrev pub needed_by : Ask → Names → Command → List Text
needed_by a names command = needed permits traits act (request_of a) names command

-- what a command of an ask by who does, where its identifiers are new and it has the wrap TTL that it must have
abbrev pub acted : Broker → Option Text → Names → Ask → Command → Result Wrapped Refusal
acted b who names a command = do
  done ← act b who names command
  Ok (wrapped permits traits act b (request_of a) names command done)

-- what a command of an ask by who leads to, or why it is refused
abbrev pub operated : Broker → Option Text → Names → Ask → Command → Result Wrapped Refusal
operated b who names a command = carried_out permits traits act b who (request_of a) names command

-- what an ask by who leads to, or why it is refused
abbrev pub served : Broker → Option Text → Names → Ask → Result Wrapped Refusal
served b who names a = serve permits traits act b who (request_of a) names

-- what an open ask leads to
abbrev pub answered_openly : Broker → Names → Ask → Outcome
answered_openly b names a = finish b None (served b None names a)

-- what an ask of the caller c leads to, with the use that c spends, and its end if that was the last
abbrev pub called : Broker → Text → Names → Ask → Outcome
called b c names a = finish (spend b c) (Some c) (served (spend b c) (Some c) names a)
