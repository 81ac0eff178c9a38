-- What the requests of the client ask (Vault's documentation, "HTTP API" and "Response wrapping").
use Rattle.std.proofs.Common.{◌≡◌, ◌^◌, ◌<◌, ◌≤◌, ℕ, true, List, [], length, unwrap_or, Option, IfSome, All, IsUtf8}
use Rattle.std.proofs.Common.{Result, Some, None, decimal, Ok}
use Rattle.http_layer.specs.Words.{asked, wrap_ttl_read, IsFront, whole, HeadParts, RefusalParts, ◌>>=◌}
use Rattle.broker_types.specs.Words.{longest_body, is_path, Text}
use Rattle.broker_types.specs.declared.ask.Ask.{Ask}
use Rattle.broker_types.specs.declared.ask.Verb.{Verb}
use Rattle.api_client.specs.Requests.{body_of, path_of, version_of}
use Rattle.api_client.specs.Commands.{is_field_text, is_short_text}
use Rattle.api_client.specs.declared.command.Command.{Command}
use Rattle.api_client.specs.declared.command.Request.{Request}

-- ---- what a command means

abbrev pub verb_of : Request → Verb
verb_of (Request.Read path version) = Verb.Get
verb_of (Request.Write path body) = Verb.Write
verb_of (Request.List path) = Verb.List
verb_of (Request.Delete path) = Verb.Delete
verb_of (Request.Unwrap token) = Verb.Write

-- the version that is asked for, as it is written
abbrev pub version_text : Option ℕ → Text
version_text None = []
version_text (Some version) = decimal version

-- the ask that a command means, or the refusal of a wrap TTL that is no duration
abbrev pub ask_meant : Command → Result Ask RefusalParts
ask_meant c = do
  wrap_ttl ← wrap_ttl_read c.wrap_ttl
  Ok (record {
    verb = verb_of c.request;
    path = path_of c.request;
    version = version_text (version_of c.request);
    token = c.token;
    wrap_ttl = wrap_ttl;
    body = unwrap_or (body_of c.request) [];
  })

-- The bytes are one whole request with nothing after it, and what it asks is what the command means.
pub record Asks (bytes : List ℕ) (c : Command) : Type 0 where
  pub head : HeadParts
  pub body : List ℕ
  pub front : IsFront bytes (whole (length bytes) head body)
  pub asks : asked head body ≡ ask_meant c

-- ---- what the types of a command keep true

pub record IsPathText (path : List ℕ) : Type 0 where
  pub good : is_path path ≡ true
  pub text : IsUtf8 path
  pub bytes : All (λ b. b < 256) path

abbrev pub IsSendable : Request → Type 0
IsSendable (Request.Read path version) = IsPathText path × IfSome version (λ n. n < 2 ^ 64)
IsSendable (Request.Write path body) = IsPathText path × (length body ≤ longest_body)
IsSendable (Request.List path) = IsPathText path
IsSendable (Request.Delete path) = IsPathText path
IsSendable (Request.Unwrap token) = IfSome token (λ t. is_short_text t ≡ true)

abbrev pub IsOptionalField : Option Text → Type 0
IsOptionalField o = IfSome o (λ t. is_field_text t ≡ true)
