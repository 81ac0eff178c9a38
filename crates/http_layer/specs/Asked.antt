-- What a whole request asks (RFC 9110, sections 5 and 9; Vault's documentation, "HTTP API").
use Rattle.std.specs.Prelude.{◌≢◌, ◌==◌, ◌||◌, ◌&&◌, ◌∷◌, if◌then◌else◌, ℕ, Bool, List, [], All, take, drop, length, Ok}
use Rattle.broker_types.specs.Words.{min, bytes_eq, codes, Option, Some, None, option_and_then, Result, Err, true}
use Rattle.broker_types.specs.Words.{false, prefix_len, before_first, after_first, option_or, option_map_or, is_utf8}
use Rattle.broker_types.specs.Words.{duration_of, longest_ttl, Text, is_path, without_slash, reason_opening}
use Rattle.percent_encoding.specs.Percent.{percent_sign, percent_decode}
use Rattle.broker_types.specs.declared.status.Status.TheVariants as status
use Rattle.broker_types.specs.declared.refusal.Reason.{Reason}
use Rattle.broker_types.specs.declared.refusal.Reason.TheVariants as reason
use Rattle.broker_types.specs.declared.ask.Ask.{Ask}
use Rattle.broker_types.specs.declared.ask.Verb.{Verb}
use Rattle.broker_types.specs.declared.ask.Verb.TheVariants as verb
use Rattle.http_layer.specs.HeadParts.{HeadField, HeadParts, same_in_any_case, values_named}
use Rattle.http_layer.specs.Query.{target_path, target_query, lists, version_asked}
use Rattle.http_layer.specs.Refusing.{◌>>=◌, RefusalParts}

-- ---- the refusals

-- 501, for a method that the API does not have (RFC 9110, section 15.6.2); the connection closes
abbrev pub unknown_method : RefusalParts
unknown_method = record { status = status.NotImplemented; text = None; close = true }

-- 404, for a target outside the API (RFC 9110, section 15.5.5)
abbrev pub unknown_target : RefusalParts
unknown_target = record { status = status.NotFound; text = None; close = false }

-- 400, for a reason that does not name a member of the body (RFC 9110, section 15.5.1)
abbrev pub bad_request : Reason → RefusalParts
bad_request r = record { status = status.BadRequest; text = Some (reason_opening r); close = false }

-- ---- the verb

-- What a method asks for; POST and PUT ask for the same (RFC 9110, section 9). A GET whose query has `list=true` asks
-- for a list, as LIST does (Vault's documentation, "HTTP API").
abbrev pub verb_asked : List ℕ → List ℕ → Result Verb RefusalParts
verb_asked method query =
    if bytes_eq method (codes "GET") then Ok (if lists query then verb.List else verb.Get)
    else if bytes_eq method (codes "LIST") then Ok verb.List
    else if bytes_eq method (codes "POST") || bytes_eq method (codes "PUT") then Ok verb.Write
    else if bytes_eq method (codes "DELETE") then Ok verb.Delete
    else Err unknown_method

-- ---- the fields

-- the only value of a field, in UTF-8, if the field is there
abbrev pub value_asked : List (List ℕ) → Result (Option Text) RefusalParts
value_asked [] = Ok None
value_asked (v ∷ []) = if is_utf8 v then Ok (Some v) else Err (bad_request reason.MalformedRequest)
value_asked (v ∷ w ∷ vs) = Err (bad_request reason.MalformedRequest)

-- the text, unless it is empty
abbrev pub not_empty : Text → Option Text
not_empty text = if length text == 0 then None else Some text

-- whether the byte is a space
abbrev pub is_space : ℕ → Bool
is_space b = b == 32

-- the text without the spaces at its beginning
abbrev pub without_spaces : Text → Text
without_spaces text = drop (prefix_len is_space text) text

-- The token of credentials: what follows `Bearer`, in any case (RFC 9110, section 11.1), and one or more spaces (RFC
-- 6750, section 2.1), unless nothing does. Credentials of another scheme have none.
abbrev pub bearer_token : Text → Option Text
bearer_token credentials =
    if same_in_any_case (before_first is_space credentials) (codes "bearer")
    then not_empty (without_spaces (after_first is_space credentials))
    else None

-- The client token (Vault's documentation, "HTTP API", authentication): X-Vault-Token unless it is empty, else the
-- token of Authorization.
abbrev pub client_token : Option Text → Option Text → Option Text
client_token vault authorization =
    option_or (option_and_then not_empty vault) (option_and_then bearer_token authorization)

-- the client token, from the fields
abbrev pub token_asked : List HeadField → Result (Option Text) RefusalParts
token_asked fields = do
  vault ← value_asked (values_named (codes "x-vault-token") fields)
  authorization ← value_asked (values_named (codes "authorization") fields)
  Ok (client_token vault authorization)

-- the text of the wrap TTL (Vault's documentation, "Response wrapping"), from the fields
abbrev pub wrap_ttl_asked : List HeadField → Result (Option Text) RefusalParts
wrap_ttl_asked fields = value_asked (values_named (codes "x-vault-wrap-ttl") fields)

-- For how many seconds a reply waits for its wrapping token: a duration, at most 32 days. Without one the reply is not
-- wrapped.
abbrev pub wrap_ttl_read : Option Text → Result ℕ RefusalParts
wrap_ttl_read None = Ok 0
wrap_ttl_read (Some text) =
    option_map_or (λ n. Ok (min n longest_ttl)) (duration_of text) (Err (bad_request reason.InvalidDuration))

-- ---- the path

-- no byte is `%`, which begins an encoded byte (RFC 3986, section 2.1)
abbrev pub HasNoEscape : List ℕ → Type 0
HasNoEscape bytes = All (λ b. b ≢ percent_sign) bytes

-- the path that these bytes are, without a final `/`, if they are UTF-8: this project's rule
abbrev pub path_read : List ℕ → Result Text RefusalParts
path_read bytes =
    if is_utf8 bytes && is_path (without_slash bytes)
    then Ok (without_slash bytes)
    else Err (bad_request reason.InvalidPath)

-- The path that a target names: what follows `/v1/` (Vault's documentation, "HTTP API") up to the query, with each
-- encoded byte read (RFC 3986, section 2.1). A `%` that begins none stays.
abbrev pub path_asked : List ℕ → Result Text RefusalParts
path_asked target =
    if bytes_eq (take 4 target) (codes "/v1/")
    then path_read (percent_decode (drop 4 (target_path target)))
    else Err unknown_target

-- ---- the ask

-- What a request asks, or its first refusal: of its method, of a field that is not one text, of its target, or of a
-- wrap TTL that is no duration. The order is this project's.
unfoldable pub asked : HeadParts → List ℕ → Result Ask RefusalParts
asked head body = do
  verb ← verb_asked head.method (target_query head.target)
  token ← token_asked head.fields
  ttl ← wrap_ttl_asked head.fields
  path ← path_asked head.target
  wrap_ttl ← wrap_ttl_read ttl
  Ok (record {
    verb = verb;
    path = path;
    version = version_asked (target_query head.target);
    token = token;
    wrap_ttl = wrap_ttl;
    body = body;
  })
