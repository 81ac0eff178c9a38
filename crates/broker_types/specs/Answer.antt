-- Answers of the broker (Vault's documentation, "HTTP API"; the room is this project's).
use Rattle.std.specs.Prelude.{◌≡◌, ◌+◌, ◌≤◌, length}
use Rattle.broker_types.specs.Text.{Text}
use Rattle.broker_types.specs.Refusal.{refusal_status, refusal_methods, refusal_text, errors_body}
use Rattle.broker_types.specs.declared.status.Status.{Status}
use Rattle.broker_types.specs.declared.status.Methods.{Methods}
use Rattle.broker_types.specs.declared.refusal.Refusal.{Refusal}
use Rattle.broker_types.specs.declared.answer.Answer.{Answer}

-- what an answer says: its status, the methods of a 405, and the body
pub record Response : Type 0 where
  pub status : Status
  pub methods : Methods
  pub text : Text

-- what the answer says
abbrev pub response_of : Answer → Response
response_of a = record { status = a.status; methods = a.methods; text = a.text }

-- the answer's room takes the text and a head of 1,024 bytes
abbrev pub HasRoom : Answer → Type 0
HasRoom a = length a.text + 1024 ≤ a.room

-- what is answered to a refused request (Vault's documentation, "HTTP API", error response)
abbrev pub refused : Refusal → Response
refused r = record { status = refusal_status r; methods = refusal_methods r; text = errors_body (refusal_text r) }

-- the answer to a refused request, whose text is a listed one
abbrev pub IsRefused : Response → Type 0
IsRefused r = (why : Refusal) × (r ≡ refused why)
