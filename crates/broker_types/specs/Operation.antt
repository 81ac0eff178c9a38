-- What an operation of the broker leaves (this project's definition).
use Rattle.std.specs.Prelude.{List, [], Option, None}
use Rattle.broker_types.specs.Text.{Text}
use Rattle.broker_types.specs.Broker.{Broker}
use Rattle.broker_types.specs.declared.reply.Reply.{Reply}

-- What it answers: 204; 200 with a reply, and the accessor of the token that it made; 200 with the kept text of an
-- unwrapped reply; or 404 with a reply.
pub data Answered : Type 0 where
  nothing : Answered
  reply : Reply → Option Text → Answered
  kept_text : Text → Answered
  missing : Reply → Answered

-- its answer, the next broker, the identifiers given out, and the origin of the response that was handed out
pub record Done : Type 0 where
  pub answered : Answered
  pub next : Broker
  pub taken : List Text
  pub handed : Option Text

-- an operation that gives out no identifier, and hands out no response that waited
abbrev pub plainly : Answered → Broker → Done
plainly answered next = record { answered = answered; next = next; taken = []; handed = None }
