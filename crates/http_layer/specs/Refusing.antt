-- Requests that are refused without asking the broker, and the answers to them (this project's definition).
use Rattle.std.specs.Prelude.{◌≡◌, Bool, [], Option, option_map, Result, Ok, Err}
use Rattle.broker_types.specs.Words.{Text, no_methods, Response, errors_body, cutting_text}
use Rattle.broker_types.specs.declared.status.Status.{Status}
use Rattle.broker_types.specs.declared.status.Status.TheVariants as status
use Rattle.broker_types.specs.declared.fault.Fault.TheVariants.{Memory}
use Rattle.http_layer.specs.declared.refusal.HttpRefusal.{HttpRefusal}
use Rattle.http_layer.specs.declared.refusal.AskError.{AskError}
use Rattle.http_layer.specs.declared.refusal.AskError.TheVariants as error

-- a refusal: its status, its text if it has one, and whether it closes the connection, whatever the request says of it
pub record RefusalParts : Type 0 where
  pub status : Status
  pub text : Option Text
  pub close : Bool

infixl 10 ◌>>=◌
-- the next step, unless this one was refused: the first refusal is the answer
abbrev pub ◌>>=◌ : {A B : Type 0} → Result A RefusalParts → (A → Result B RefusalParts) → Result B RefusalParts
(Ok x) >>= next = next x
(Err r) >>= next = Err r

-- the refusal that a value of the code is
abbrev pub parts_of_refusal : HttpRefusal → RefusalParts
parts_of_refusal r = record { status = r.status; text = option_map (λ s. s.now) r.text; close = r.close }

-- The body of a refusal: none on 501 (this project's choice), else `{"errors":["text"]}` or `{"errors":[]}` and a line
-- feed (Vault's documentation, "HTTP API", error response).
abbrev pub refusal_body : Status → Option Text → Text
refusal_body status.NotImplemented text = []
refusal_body _ text = errors_body text

-- the response to a refusal with this status and this text
abbrev pub refusal_response : Status → Option Text → Response
refusal_response status text = record { status = status; methods = no_methods; text = refusal_body status text }

-- the response to a request that asks nothing
abbrev pub ask_refused : RefusalParts → Response
ask_refused r = refusal_response r.status r.text

-- the response to a front that is refused
abbrev pub front_refused : Status → Response
front_refused status = refusal_response status (cutting_text status)

-- the result is what the definition says, a value or a refusal, unless memory ran out
abbrev pub Agrees : {A : Type 0} → Result A RefusalParts → Result A AskError → Type 0
Agrees asked (Ok x) = asked ≡ Ok x
Agrees asked (Err (error.Refused r)) = asked ≡ Err (parts_of_refusal r)
Agrees asked (Err (error.Fault f)) = f ≡ Memory
