-- The bytes of the client's requests (RFC 9112, sections 2.1, 3 and 5; Vault's documentation, "HTTP API" and "Response
-- wrapping"). Which fields are sent, and their order, are this project's.
use Rattle.std.proofs.Common.{◌≡◌, ◌++◌, ℕ, List, [], Option, Some, None, codes, decimal, length, option_map, unwrap_or}
use Rattle.serde_json.specs.Data.{Data, object, member, no_members, string}
use Rattle.serde_json.specs.Read.{read}
use Rattle.serde_json.specs.Written.{compact_text}
use Rattle.broker_types.specs.Words.{⊤, Text}
use Rattle.http_layer.specs.Words.{crlf}
use Rattle.api_client.specs.Escaping.{escaped}
use Rattle.api_client.specs.declared.command.Command.{Command}
use Rattle.api_client.specs.declared.command.Request.{Request}

-- ---- the parts of a request

-- its method (Vault's documentation, "HTTP API", for LIST)
abbrev pub method_of : Request → Text
method_of (Request.Read path version) = codes "GET"
method_of (Request.Write path body) = codes "POST"
method_of (Request.List path) = codes "LIST"
method_of (Request.Delete path) = codes "DELETE"
method_of (Request.Unwrap token) = codes "POST"

-- its path, below `/v1/`
abbrev pub path_of : Request → Text
path_of (Request.Read path version) = path
path_of (Request.Write path body) = path
path_of (Request.List path) = path
path_of (Request.Delete path) = path
path_of (Request.Unwrap token) = codes "sys/wrapping/unwrap"

-- the version that it asks for
abbrev pub version_of : Request → Option ℕ
version_of (Request.Read path version) = version
version_of _ = None

-- the object that names a wrapping token (Vault's documentation, "/sys/wrapping/unwrap")
abbrev pub unwrap_object : Option Text → Data
unwrap_object None = object no_members
unwrap_object (Some token) = object (member (codes "token") (string token) no_members)

-- its body, which POST alone has
abbrev pub body_of : Request → Option (List ℕ)
body_of (Request.Write path body) = Some body
body_of (Request.Unwrap token) = Some (compact_text (unwrap_object token))
body_of _ = None

-- the compact text of a JSON value is read as that value (RFC 8259)
abbrev pub IsReadBack : Data → Type 0
IsReadBack d = read (compact_text d) ≡ Some d

-- the body of a request that names a wrapping token is read as the object that names it
abbrev pub NamesToken : Request → Type 0
NamesToken (Request.Unwrap token) = IsReadBack (unwrap_object token)
NamesToken _ = ⊤

-- ---- its lines

-- the query that asks for a version (Vault's documentation, "KV secrets engine, version 2", "Read secret version")
abbrev pub query_line : Option ℕ → Text
query_line None = []
query_line (Some version) = codes "?version=" ++ decimal version

-- the request line (RFC 9112, section 3)
abbrev pub request_line : Request → Text
request_line r =
    method_of r ++ codes " /v1/" ++ escaped (path_of r) ++ query_line (version_of r) ++ codes " HTTP/1.1" ++ crlf

-- the line of a field (RFC 9112, section 5)
abbrev pub field_line : Text → Text → Text
field_line name value = name ++ codes ": " ++ value ++ crlf

-- the same, if there is a value
abbrev pub optional_line : Text → Option Text → Text
optional_line name None = []
optional_line name (Some value) = field_line name value

-- how many bytes the body has, if there is one (RFC 9110, section 8.6)
abbrev pub length_line : Option ℕ → Text
length_line None = []
length_line (Some len) = field_line (codes "Content-Length") (decimal len)

-- the head, before a body of so many bytes or none
abbrev pub head_lines : Command → Option ℕ → Text
head_lines c len =
    request_line c.request ++ field_line (codes "Host") c.address
    ++ optional_line (codes "X-Vault-Token") c.token ++ optional_line (codes "X-Vault-Wrap-TTL") c.wrap_ttl
    ++ field_line (codes "Connection") (codes "close") ++ length_line len ++ crlf

-- The bytes that are sent for a command.
unfoldable pub sent : Command → List ℕ
sent c = head_lines c (option_map length (body_of c.request)) ++ unwrap_or (body_of c.request) []
