-- What a command line of the client means (this project's).
use Rattle.std.specs.Prelude.{◌≡◌, ◌≢◌, ◌==◌, ◌∷◌, ◌++◌, if◌then◌else◌, ℕ, Bool, codes, List, [], length, bytes_eq}
use Rattle.std.specs.Prelude.{Option, Some}
use Rattle.std.specs.Prelude.{IsErr, Ok, option_and_then, option_map, slice_get}
use Rattle.broker_types.specs.Words.{None, Result, Err, before_first, after_first, Text}
use Rattle.clap.specs.Words.{Kinds, Row, all_of, first_of, fault_of, kind_of, matches_of, subcommand_of}
use Rattle.clap.specs.declared.error.kind.ErrorKind.TheVariants.{OutOfMemory}
use Rattle.serde_json.specs.Data.{Members, no_members, number, object, string, unsigned}
use Rattle.serde_json.specs.Written.{compact_text}
use Rattle.broker_types.specs.declared.fault.Fault.TheVariants.{Memory}
use Rattle.command_line.specs.Bodies.{body_given, put_given}
use Rattle.command_line.specs.CommandLine.{client_app}
use Rattle.command_line.specs.Found.{Found}
use Rattle.command_line.specs.Settings.{◌>>=◌, body_text, given, is_given, number_in, optional, path_text, settings_in}
use Rattle.command_line.specs.Settings.{short_text}
use Rattle.command_line.specs.Objects.{strings, with_value}
use Rattle.command_line.specs.declared.body_words.BodyWord.{BodyWord}
use Rattle.command_line.specs.declared.no_body.BodyMistake.{BodyMistake}
use Rattle.api_client.specs.declared.command.Command.{Command}
use Rattle.api_client.specs.declared.command.Request.{Request}
use Rattle.api_client.specs.declared.command.Request.TheVariants as request
use Rattle.command_line.specs.declared.mistake.Mistake.{Mistake}
use Rattle.command_line.specs.declared.mistake.Mistake.TheVariants as mistake
use Rattle.command_line.specs.declared.no_command.NoCommand.{NoCommand}
use Rattle.command_line.specs.declared.no_command.NoCommand.TheVariants.{Usage, Fault}
use Rattle.command_line.specs.declared.no_request.NoRequest.{NoRequest}
use Rattle.command_line.specs.declared.no_request.NoRequest.TheVariants as reason

-- the result is what the definition says, a value or a mistake, unless memory ran out
abbrev pub Agrees : {A : Type 0} → Result A Mistake → Result A NoRequest → Type 0
Agrees meant (Ok x) = meant ≡ Ok x
Agrees meant (Err (reason.Mistaken m)) = meant ≡ Err m
Agrees meant (Err (reason.Fault f)) = f ≡ Memory

-- ---- paths

abbrev pub path_in : List Row → Result Text Mistake
path_in rows = given mistake.Path path_text (first_of (codes "path") rows)

-- the byte `/`
abbrev pub is_slash : ℕ → Bool
is_slash b = b == 47

-- The path of a secret in a folder of its mount, such as `data` (Vault's documentation, "KV secrets engine, version
-- 2"): `secret/app` is `secret/data/app`. The first segment is the mount.
abbrev pub secret_path : Text → Text → Text
secret_path folder t = before_first is_slash t ++ codes "/" ++ folder ++ codes "/" ++ after_first is_slash t

-- the same, of a path that may be the mount alone
abbrev pub folder_in : Text → List Row → Result Text Mistake
folder_in folder rows = given mistake.Path (λ t. path_text (secret_path folder t)) (first_of (codes "path") rows)

-- a path below the mount
abbrev pub below_mount : Text → Text → Result Text Mistake
below_mount folder t =
    if length (after_first is_slash t) == 0 then Err mistake.Secret else path_text (secret_path folder t)

abbrev pub secret_in : Text → List Row → Result Text Mistake
secret_in folder rows = given mistake.Path (below_mount folder) (first_of (codes "path") rows)

-- the path of a policy
abbrev pub policy_in : List Row → Result Text Mistake
policy_in rows = given mistake.Path (λ t. path_text (codes "sys/policies/acl/" ++ t)) (first_of (codes "name") rows)

-- ---- bodies

-- the body that words give, or their mistake
abbrev pub of_words : Result Text BodyMistake → Result Text Mistake
of_words (Ok text) = body_text text
of_words (Err m) = Err (mistake.Words m)

-- the body that is the object of these members
abbrev pub object_body : Members → Result Text Mistake
object_body members = body_text (compact_text (object members))

-- the object of one member, if there is its text
abbrev pub text_member : Text → Option Text → Members
text_member name text = with_value name (option_map string text) no_members

-- the members of a request for a token (Vault's documentation, "Token auth method (API)")
abbrev pub with_token_members : List Row → Option ℕ → Members → Members
with_token_members rows uses members =
    with_value (codes "ttl") (option_map string (first_of (codes "ttl") rows))
    (with_value (codes "policies") (option_map strings (all_of (codes "policy") rows))
    (with_value (codes "period") (option_map string (first_of (codes "period") rows))
    (with_value (codes "num_uses") (option_map (λ n. number (unsigned n)) uses) members)))

abbrev pub token_members : List Row → Option ℕ → Members
token_members rows uses = with_token_members rows uses no_members

-- the members of a request for the renewal of a lease (Vault's documentation, "/sys/leases")
abbrev pub renewal_members : List Row → Members
renewal_members rows =
    with_value (codes "lease_id") (option_map string (first_of (codes "id") rows))
    (text_member (codes "increment") (first_of (codes "increment") rows))

-- ---- requests

abbrev pub read_at : Text → Option ℕ → Result Request Mistake
read_at path version = do
  p ← path_text path
  Ok (request.Read p version)

abbrev pub list_at : Text → Result Request Mistake
list_at path = do
  p ← path_text path
  Ok (request.List p)

-- a write of an object to a path that is given
abbrev pub write_at : Text → Members → Result Request Mistake
write_at path members = do
  p ← path_text path
  body ← object_body members
  Ok (request.Write p body)

abbrev pub get_secret : List Row → Result Request Mistake
get_secret rows = do
  path ← secret_in (codes "data") rows
  version ← number_in (codes "version") rows
  Ok (request.Read path version)

abbrev pub put_secret : List Row → List BodyWord → Result Request Mistake
put_secret rows words = do
  path ← secret_in (codes "data") rows
  cas ← number_in (codes "cas") rows
  body ← of_words (put_given words cas)
  Ok (request.Write path body)

abbrev pub write_in : List Row → List BodyWord → Result Request Mistake
write_in rows words = do
  path ← path_in rows
  body ← of_words (body_given words)
  Ok (request.Write path body)

abbrev pub token_text : Text → Result Text Mistake
token_text t = short_text mistake.WrappingToken t

abbrev pub unwrap_in : List Row → Result Request Mistake
unwrap_in rows = do
  token ← optional token_text (first_of (codes "token") rows)
  Ok (request.Unwrap token)

-- a request to a path that was found
abbrev pub on_path : (Text → Request) → Result Text Mistake → Result Request Mistake
on_path f path = do
  p ← path
  Ok (f p)

-- where a token is created
abbrev pub creation : Bool → Text
creation is_orphan = if is_orphan then codes "auth/token/create-orphan" else codes "auth/token/create"

abbrev pub create_token : List Row → Result Request Mistake
create_token rows = do
  uses ← number_in (codes "use-limit") rows
  write_at (creation (is_given (codes "orphan") rows)) (token_members rows uses)

abbrev pub look_up_token : Option Text → Result Request Mistake
look_up_token None = read_at (codes "auth/token/lookup-self") None
look_up_token (Some accessor) =
    write_at (codes "auth/token/lookup-accessor") (text_member (codes "accessor") (Some accessor))

abbrev pub revoke_token : Option Text → Result Request Mistake
revoke_token None = write_at (codes "auth/token/revoke-self") no_members
revoke_token (Some accessor) =
    write_at (codes "auth/token/revoke-accessor") (text_member (codes "accessor") (Some accessor))

-- the text of a policy, which was read for the only word
abbrev pub policy_text : List BodyWord → Option Text
policy_text words = option_and_then (λ w. w.text) (slice_get words 0)

abbrev pub write_policy : List Row → List BodyWord → Result Request Mistake
write_policy rows words = do
  path ← policy_in rows
  body ← object_body (text_member (codes "policy") (policy_text words))
  Ok (request.Write path body)

abbrev pub renew_lease : List Row → Result Request Mistake
renew_lease rows = write_at (codes "sys/leases/renew") (renewal_members rows)

abbrev pub revoke_lease : List Row → Result Request Mistake
revoke_lease rows = write_at (codes "sys/leases/revoke") (text_member (codes "lease_id") (first_of (codes "id") rows))

-- the request of a command for a lease, by its name
abbrev pub lease_request : Text → List Row → Result Request Mistake
lease_request name rows =
    if bytes_eq name (codes "lease renew") then renew_lease rows
    else if bytes_eq name (codes "lease revoke") then revoke_lease rows
    else Err mistake.Request

abbrev pub policy_request : Text → List Row → List BodyWord → Result Request Mistake
policy_request name rows words =
    if bytes_eq name (codes "policy write") then write_policy rows words
    else if bytes_eq name (codes "policy read") then on_path (λ p. request.Read p None) (policy_in rows)
    else if bytes_eq name (codes "policy delete") then on_path request.Delete (policy_in rows)
    else if bytes_eq name (codes "policy list") then list_at (codes "sys/policies/acl")
    else lease_request name rows

abbrev pub token_request : Text → List Row → List BodyWord → Result Request Mistake
token_request name rows words =
    if bytes_eq name (codes "token create") then create_token rows
    else if bytes_eq name (codes "token lookup") then look_up_token (first_of (codes "accessor") rows)
    else if bytes_eq name (codes "token renew") then write_at (codes "auth/token/renew-self") no_members
    else if bytes_eq name (codes "token revoke") then revoke_token (first_of (codes "accessor") rows)
    else if bytes_eq name (codes "token list") then list_at (codes "auth/token/accessors")
    else policy_request name rows words

abbrev pub secret_request : Text → List Row → List BodyWord → Result Request Mistake
secret_request name rows words =
    if bytes_eq name (codes "kv get") then get_secret rows
    else if bytes_eq name (codes "kv put") then put_secret rows words
    else if bytes_eq name (codes "kv list") then on_path request.List (folder_in (codes "metadata") rows)
    else if bytes_eq name (codes "kv delete") then on_path request.Delete (secret_in (codes "data") rows)
    else token_request name rows words

-- The request of a command, by its name and by what was found for its arguments. Words give its body, if it has one:
-- each as it was typed, with the text that was read for it where it names a file or standard input.
abbrev pub request_in : Text → List Row → List BodyWord → Result Request Mistake
request_in name rows words =
    if bytes_eq name (codes "read") then on_path (λ p. request.Read p None) (path_in rows)
    else if bytes_eq name (codes "write") then write_in rows words
    else if bytes_eq name (codes "list") then on_path request.List (path_in rows)
    else if bytes_eq name (codes "delete") then on_path request.Delete (path_in rows)
    else if bytes_eq name (codes "unwrap") then unwrap_in rows
    else secret_request name rows words

-- ---- command lines

-- the words that give the body, as they were typed
abbrev pub words_entered : Option (Text × List Row) → Option (List Text)
words_entered None = None
words_entered (Some entered) = all_of (codes "body") entered.1

abbrev pub request_entered : Option (Text × List Row) → List BodyWord → Result Request Mistake
request_entered None words = Err mistake.Request
request_entered (Some entered) words = request_in entered.0 entered.1 words

-- the command of what was found
abbrev pub command_in : Found → List BodyWord → Result Command Mistake
command_in found words = do
  settings ← settings_in found.0
  meant ← request_entered found.1 words
  Ok (record {
    address = settings.address;
    token = settings.token;
    wrap_ttl = settings.wrap_ttl;
    request = meant;
  })

-- what was found, unless `clap` refuses the words by one of these kinds
abbrev pub unless_refused : Kinds → Found → Option Found
unless_refused [] found = Some found
unless_refused (kind ∷ kinds) found = None

-- What the words of a line give; nothing if `clap` refuses them or answers with help. The first word is the name of
-- the program.
abbrev pub line_read : List Text → Option Found
line_read words =
    unless_refused (fault_of client_app words) (matches_of client_app words, subcommand_of client_app words)

-- usage is told only if the words give nothing; the only fault is running out of memory
abbrev pub IsNoLine : List Text → NoCommand → Type 0
IsNoLine words (Usage error) = (line_read words ≡ None) × (kind_of error ≢ OutOfMemory)
IsNoLine words (Fault fault) = fault ≡ Memory

-- usage, or that memory ran out
abbrev pub IsTold : NoCommand → Type 0
IsTold (Usage error) = kind_of error ≢ OutOfMemory
IsTold (Fault fault) = fault ≡ Memory

-- usage is told only if there is no such command; the only fault is running out of memory
abbrev pub IsNoCommand : Result Command Mistake → NoCommand → Type 0
IsNoCommand meant (Usage error) = IsErr meant × (kind_of error ≢ OutOfMemory)
IsNoCommand meant (Fault fault) = fault ≡ Memory
