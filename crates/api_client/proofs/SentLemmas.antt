-- What is sent for a command is a request of the grammar of HTTP, with its body.
use Rattle.httparse.specs.Grammar.{IsToken, is_uri_byte, print_request}
use Rattle.json.specs.Print.{escape, escape_byte, escape_letter}
use Rattle.broker_types.specs.Words.{filter-append, digit_char, longest_body}
use Rattle.http_layer.specs.Words.{content_length, longest_head, CanBeSent}
use Rattle.api_client.specs.Words.{◌≡◌, ◌+◌, ◌*◌, ◌/◌, ◌%◌, ◌^◌, ◌<◌, ◌≤◌, ◌∷◌, ◌++◌, ℕ, nat_lt, Bool, true, false}
use Rattle.api_client.specs.Words.{cond, List, [], length, map, All, IfSome, Option, Some, None, Ok, codes, decimal}
use Rattle.api_client.specs.Words.{option_map, unwrap_or, refl, sym, ap, ap₂, ◌∙◌, subst, arith, lit<, append_assoc}
use Rattle.api_client.specs.Words.{append-nil, length-append, filter, flat_map, map-append, All-append, All-cons}
use Rattle.api_client.specs.Words.{All-nil, All-weaker, AllPass-from_list_all, nat_tests, length-decimal-le}
use Rattle.api_client.specs.Words.{flat_map-append, leb-true, Field, IsField, crlf, is_token_byte, print_field}
use Rattle.api_client.specs.Words.{trim_ows, name_and_value, compact_text, HeadField, is_named, same_in_any_case}
use Rattle.api_client.specs.Words.{values_named, PrintedLengthIsRead, printed_head, IsOptionalField, IsPathText}
use Rattle.api_client.specs.Words.{IsSendable, is_field_text, is_short_text, is_visible, escaped, body_of, method_of}
use Rattle.api_client.specs.Words.{path_of, query_line, version_of, Command, Request}
use Rattle.api_client.specs.Requests.{field_line, head_lines, length_line, optional_line, request_line, unwrap_object}
use Rattle.api_client.proofs.PathLemmas.{escaped_visible, length-escaped, path_parts, target_to}
use Rattle.api_client.proofs.TextLemmas.{AreVisible, decimal_visible, field_parts, field_raw, trim_visible}
use Rattle.api_client.proofs.TextLemmas.{visible_text}

-- ---- the fields

abbrev pub field : List ℕ → List ℕ → Field
field name value = record { name = name; raw = 32 ∷ value; end = crlf }

abbrev pub optional_field : List ℕ → Option (List ℕ) → List Field
optional_field name None = []
optional_field name (Some value) = field name value ∷ []

abbrev pub length_field : Option ℕ → List Field
length_field None = []
length_field (Some len) = field (codes "Content-Length") (decimal len) ∷ []

abbrev pub sent_fields : Command → Option ℕ → List Field
sent_fields c len =
    field (codes "Host") c.address
    ∷ (optional_field (codes "X-Vault-Token") c.token
    ++ (optional_field (codes "X-Vault-Wrap-TTL") c.wrap_ttl
    ++ (field (codes "Connection") (codes "close") ∷ length_field len)))

-- ---- the bytes of the head

pub print_one : (name value : List ℕ) → print_field (field name value) ≡ field_line name value
print_one name value = simp append_assoc

print_optional : (name : List ℕ) (o : Option (List ℕ))
    → flat_map print_field (optional_field name o) ≡ optional_line name o
print_optional name None = refl
print_optional name (Some value) = append-nil (print_field (field name value)) ∙ print_one name value

print_length : (o : Option ℕ) → flat_map print_field (length_field o) ≡ length_line o
print_length None = refl
print_length (Some len) = append-nil (print_field (field (codes "Content-Length") (decimal len)))
    ∙ print_one (codes "Content-Length") (decimal len)

print_fields : (c : Command) (len : Option ℕ)
    → flat_map print_field (sent_fields c len)
    ≡ field_line (codes "Host") c.address
    ++ (optional_line (codes "X-Vault-Token") c.token
    ++ (optional_line (codes "X-Vault-Wrap-TTL") c.wrap_ttl
    ++ (field_line (codes "Connection") (codes "close") ++ length_line len)))
print_fields c len =
    let last : List Field = field (codes "Connection") (codes "close") ∷ length_field len in
    let ttl = optional_field (codes "X-Vault-Wrap-TTL") c.wrap_ttl in
    ap₂ (λ (a b : List ℕ). a ++ b) (print_one (codes "Host") c.address)
    (flat_map-append print_field (optional_field (codes "X-Vault-Token") c.token) (ttl ++ last)
    ∙ ap₂ (λ (a b : List ℕ). a ++ b) (print_optional (codes "X-Vault-Token") c.token)
    (flat_map-append print_field ttl last
    ∙ ap₂ (λ (a b : List ℕ). a ++ b) (print_optional (codes "X-Vault-Wrap-TTL") c.wrap_ttl)
    (ap₂ (λ (a b : List ℕ). a ++ b) (print_one (codes "Connection") (codes "close")) (print_length len))))

regroup : (m e q h t w k l : List ℕ)
    → m ++ (32 ∷ 47 ∷ 118 ∷ 49 ∷ 47 ∷ (e ++ q)) ++ codes " HTTP/1.1" ++ (13 ∷ 10 ∷ [])
    ++ (h ++ (t ++ (w ++ (k ++ l))) ++ (13 ∷ 10 ∷ []))
    ≡ m ++ codes " /v1/" ++ e ++ q ++ codes " HTTP/1.1" ++ (13 ∷ 10 ∷ []) ++ h ++ t ++ w ++ k ++ l ++ (13 ∷ 10 ∷ [])
regroup m e q h t w k l = simp append_assoc

pub printed : (c : Command) (len : Option ℕ) → print_request
    (printed_head (method_of c.request) (target_to (path_of c.request) (version_of c.request)) (sent_fields c len))
    ≡ head_lines c len
unfolding print_request
printed c len =
    let m = method_of c.request in
    let e = escaped (path_of c.request) in
    let q = query_line (version_of c.request) in
    ap (λ (fs : List ℕ). m ++ (32 ∷ 47 ∷ 118 ∷ 49 ∷ 47 ∷ (e ++ q)) ++ codes " HTTP/1.1" ++ (13 ∷ 10 ∷ [])
    ++ (fs ++ (13 ∷ 10 ∷ []))) (print_fields c len)
    ∙ regroup m e q (field_line (codes "Host") c.address) (optional_line (codes "X-Vault-Token") c.token)
    (optional_line (codes "X-Vault-Wrap-TTL") c.wrap_ttl)
    (field_line (codes "Connection") (codes "close")) (length_line len)

-- ---- the values of the fields

abbrev pub values_in : List ℕ → List Field → List (List ℕ)
values_in name fields = values_named name (map name_and_value fields)

pub values_in-append : (name : List ℕ) (fs gs : List Field)
    → values_in name (fs ++ gs) ≡ values_in name fs ++ values_in name gs
values_in-append name fs gs =
    ap (values_named name) (map-append name_and_value fs gs)
    ∙ ap (map (λ (f : HeadField). f.1)) (filter-append (is_named name) (map name_and_value fs) (map name_and_value gs))
    ∙ map-append (λ (f : HeadField). f.1) (filter (is_named name) (map name_and_value fs))
    (filter (is_named name) (map name_and_value gs))

values_sent : (name : List ℕ) (c : Command) (len : Option ℕ)
    → values_in name (sent_fields c len)
    ≡ values_in name (field (codes "Host") c.address ∷ [])
    ++ (values_in name (optional_field (codes "X-Vault-Token") c.token)
    ++ (values_in name (optional_field (codes "X-Vault-Wrap-TTL") c.wrap_ttl)
    ++ (values_in name (field (codes "Connection") (codes "close") ∷ []) ++ values_in name (length_field len))))
values_sent name c len =
    let host : List Field = field (codes "Host") c.address ∷ [] in
    let vault = optional_field (codes "X-Vault-Token") c.token in
    let ttl = optional_field (codes "X-Vault-Wrap-TTL") c.wrap_ttl in
    let connection : List Field = field (codes "Connection") (codes "close") ∷ [] in
    let last = length_field len in
    values_in-append name host (vault ++ (ttl ++ (connection ++ last)))
    ∙ ap (λ (vs : List (List ℕ)). values_in name host ++ vs)
    (values_in-append name vault (ttl ++ (connection ++ last))
    ∙ ap (λ (vs : List (List ℕ)). values_in name vault ++ vs)
    (values_in-append name ttl (connection ++ last)
    ∙ ap (λ (vs : List (List ℕ)). values_in name ttl ++ vs) (values_in-append name connection last)))

-- an option of another name has no value with this one
other_optional : (name other : List ℕ) (o : Option (List ℕ)) → same_in_any_case other name ≡ false
    → values_in name (optional_field other o) ≡ []
other_optional name other None e = refl
other_optional name other (Some v) e =
    ap (λ (b : Bool). map (λ (f : HeadField). f.1) (cond b ((other, trim_ows (32 ∷ v)) ∷ []) [])) e

other_length : (name : List ℕ) (o : Option ℕ) → same_in_any_case (codes "Content-Length") name ≡ false
    → values_in name (length_field o) ≡ []
other_length name None e = refl
other_length name (Some n) e = ap (λ (b : Bool). map (λ (f : HeadField). f.1)
    (cond b ((codes "Content-Length", trim_ows (32 ∷ decimal n)) ∷ []) [])) e

-- the values, where the options and the length have another name
values_other : (name : List ℕ) (c : Command) (len : Option ℕ) → same_in_any_case (codes "X-Vault-Token") name ≡ false
    → same_in_any_case (codes "X-Vault-Wrap-TTL") name ≡ false
    → same_in_any_case (codes "Content-Length") name ≡ false
    → values_in name (sent_fields c len) ≡ values_in name (field (codes "Host") c.address ∷ [])
    ++ values_in name (field (codes "Connection") (codes "close") ∷ [])
values_other name c len vault ttl last =
    rw (
      values_sent name c len,
      other_optional name (codes "X-Vault-Token") c.token vault,
      other_optional name (codes "X-Vault-Wrap-TTL") c.wrap_ttl ttl,
      other_length name len last,
    )
    (ap (λ (vs : List (List ℕ)). values_in name (field (codes "Host") c.address ∷ []) ++ vs)
    (append-nil (values_in name (field (codes "Connection") (codes "close") ∷ []))))

pub host_once : (c : Command) (len : Option ℕ) → length (values_in (codes "host") (sent_fields c len)) ≡ 1
host_once c len = ap length (values_other (codes "host") c len refl refl refl)

pub uncoded : (c : Command) (len : Option ℕ) → values_in (codes "transfer-encoding") (sent_fields c len) ≡ []
uncoded c len = values_other (codes "transfer-encoding") c len refl refl refl

pub no_credentials : (c : Command) (len : Option ℕ) → values_in (codes "authorization") (sent_fields c len) ≡ []
no_credentials c len = values_other (codes "authorization") c len refl refl refl

pub client_token_sent : (c : Command) (len : Option ℕ) → values_in (codes "x-vault-token") (sent_fields c len)
    ≡ values_in (codes "x-vault-token") (optional_field (codes "X-Vault-Token") c.token)
client_token_sent c len =
    rw (
      values_sent (codes "x-vault-token") c len,
      other_optional (codes "x-vault-token") (codes "X-Vault-Wrap-TTL") c.wrap_ttl refl,
      other_length (codes "x-vault-token") len refl,
    )
    (append-nil (values_in (codes "x-vault-token") (optional_field (codes "X-Vault-Token") c.token)))

pub wrap_ttl_sent : (c : Command) (len : Option ℕ) → values_in (codes "x-vault-wrap-ttl") (sent_fields c len)
    ≡ values_in (codes "x-vault-wrap-ttl") (optional_field (codes "X-Vault-Wrap-TTL") c.wrap_ttl)
wrap_ttl_sent c len =
    rw (
      values_sent (codes "x-vault-wrap-ttl") c len,
      other_optional (codes "x-vault-wrap-ttl") (codes "X-Vault-Token") c.token refl,
      other_length (codes "x-vault-wrap-ttl") len refl,
    )
    (append-nil (values_in (codes "x-vault-wrap-ttl") (optional_field (codes "X-Vault-Wrap-TTL") c.wrap_ttl)))

pub length_sent : (c : Command) (len : Option ℕ)
    → values_in (codes "content-length") (sent_fields c len) ≡ values_in (codes "content-length") (length_field len)
length_sent c len =
    rw (
      values_sent (codes "content-length") c len,
      other_optional (codes "content-length") (codes "X-Vault-Token") c.token refl,
      other_optional (codes "content-length") (codes "X-Vault-Wrap-TTL") c.wrap_ttl refl,
    )
    refl

-- ---- the head can be sent

method_token : (r : Request) → IsToken (method_of r)
unfolding is_token_byte
method_token (Request.Read path version) = (lit< tt, AllPass-from_list_all is_token_byte (codes "GET") refl)
method_token (Request.Write path body) = (lit< tt, AllPass-from_list_all is_token_byte (codes "POST") refl)
method_token (Request.List path) = (lit< tt, AllPass-from_list_all is_token_byte (codes "LIST") refl)
method_token (Request.Delete path) = (lit< tt, AllPass-from_list_all is_token_byte (codes "DELETE") refl)
method_token (Request.Unwrap t) = (lit< tt, AllPass-from_list_all is_token_byte (codes "POST") refl)

uri_byte : (b : ℕ) → is_visible b ≡ true → is_uri_byte b ≡ true
uri_byte b visible = grind (arith, nat_tests)

query_visible : (version : Option ℕ) → IfSome version (λ n. n < 2 ^ 64) → AreVisible (query_line version)
query_visible None small = All-nil (λ b. is_visible b ≡ true)
query_visible (Some version) small =
    All-append (λ b. is_visible b ≡ true) (codes "?version=") (decimal version)
    (AllPass-from_list_all is_visible (codes "?version=") refl) (decimal_visible version small)

target_visible : (path : List ℕ) (version : Option ℕ) → IfSome version (λ n. n < 2 ^ 64)
    → AreVisible (target_to path version)
target_visible path version small =
    let rest : List ℕ = escaped path ++ query_line version in
    more 47 (118 ∷ 49 ∷ 47 ∷ rest) refl (more 118 (49 ∷ 47 ∷ rest) refl (more 49 (47 ∷ rest) refl (more 47 rest refl
    (All-append (λ b. is_visible b ≡ true) (escaped path) (query_line version) (escaped_visible path)
    (query_visible version small)))))
  where
    more : (b : ℕ) (bs : List ℕ) → is_visible b ≡ true → AreVisible bs → AreVisible (b ∷ bs)
    more b bs is rest = All-cons (λ c. is_visible c ≡ true) b bs is rest

field_valid : (name value : List ℕ) → IsToken name → AreVisible value → IsField (field name value)
field_valid name value is visible = record { name = is; raw = field_raw value visible }

-- ---- what holds of each field

All-optional : (P : Field → Type 0) (name : List ℕ) (o : Option (List ℕ)) → IfSome o (λ t. P (field name t))
    → All P (optional_field name o)
All-optional P name None h = All-nil P
All-optional P name (Some t) h = All-cons P (field name t) [] h (All-nil P)

All-length : (P : Field → Type 0) (o : Option ℕ) → IfSome o (λ n. P (field (codes "Content-Length") (decimal n)))
    → All P (length_field o)
All-length P None h = All-nil P
All-length P (Some n) h = All-cons P (field (codes "Content-Length") (decimal n)) [] h (All-nil P)

All-sent : (P : Field → Type 0) (c : Command) (len : Option ℕ) → P (field (codes "Host") c.address)
    → IfSome c.token (λ t. P (field (codes "X-Vault-Token") t))
    → IfSome c.wrap_ttl (λ t. P (field (codes "X-Vault-Wrap-TTL") t)) → P (field (codes "Connection") (codes "close"))
    → IfSome len (λ n. P (field (codes "Content-Length") (decimal n))) → All P (sent_fields c len)
All-sent P c len host vault ttl connection last =
    let a : List Field = optional_field (codes "X-Vault-Token") c.token in
    let b : List Field = optional_field (codes "X-Vault-Wrap-TTL") c.wrap_ttl in
    let d : List Field = field (codes "Connection") (codes "close") ∷ length_field len in
    All-cons P (field (codes "Host") c.address) (a ++ (b ++ d)) host
    (All-append P a (b ++ d) (All-optional P (codes "X-Vault-Token") c.token vault)
    (All-append P b d (All-optional P (codes "X-Vault-Wrap-TTL") c.wrap_ttl ttl)
    (All-cons P (field (codes "Connection") (codes "close")) (length_field len) connection (All-length P len last))))

optional_valid : (name : List ℕ) (o : Option (List ℕ)) → IsToken name → IsOptionalField o
    → IfSome o (λ t. IsField (field name t))
optional_valid name None is good = tt
optional_valid name (Some t) is good = field_valid name t is (field_parts t good).2

length_valid : (o : Option ℕ) → IfSome o (λ n. n ≤ longest_body)
    → IfSome o (λ n. IsField (field (codes "Content-Length") (decimal n)))
unfolding is_token_byte
length_valid None short = tt
length_valid (Some n) short =
    field_valid (codes "Content-Length") (decimal n)
    (lit< tt, AllPass-from_list_all is_token_byte (codes "Content-Length") refl) (decimal_visible n (omega arith))

fields_valid : (c : Command) (len : Option ℕ) → is_field_text c.address ≡ true → IsOptionalField c.token
    → IsOptionalField c.wrap_ttl
    → IfSome len (λ n. n ≤ longest_body) → All IsField (sent_fields c len)
unfolding is_token_byte
fields_valid c len address vault ttl short =
    All-sent IsField c len
    (field_valid (codes "Host") c.address (lit< tt, AllPass-from_list_all is_token_byte (codes "Host") refl)
    (field_parts c.address address).2)
    (optional_valid (codes "X-Vault-Token") c.token
    (lit< tt, AllPass-from_list_all is_token_byte (codes "X-Vault-Token") refl) vault)
    (optional_valid (codes "X-Vault-Wrap-TTL") c.wrap_ttl
    (lit< tt, AllPass-from_list_all is_token_byte (codes "X-Vault-Wrap-TTL") refl) ttl)
    (field_valid (codes "Connection") (codes "close") (
      lit< tt,
      AllPass-from_list_all is_token_byte
          (codes "Connection") refl,
    ) (AllPass-from_list_all is_visible (codes "close") refl))
    (length_valid len short)

always : (o : Option (List ℕ)) → IfSome o (λ t. crlf ≡ crlf)
always None = tt
always (Some t) = refl

always_length : (o : Option ℕ) → IfSome o (λ n. crlf ≡ crlf)
always_length None = tt
always_length (Some n) = refl

fields_end : (c : Command) (len : Option ℕ) → All (λ f. f.end ≡ crlf) (sent_fields c len)
fields_end c len = All-sent (λ f. f.end ≡ crlf) c len refl (always c.token) (always c.wrap_ttl) refl (always_length len)

-- ---- how much is sent

optional_count : (name : List ℕ) (o : Option (List ℕ)) → length (optional_field name o) ≤ 1
optional_count name None = omega arith
optional_count name (Some t) = omega arith

length_count : (o : Option ℕ) → length (length_field o) ≤ 1
length_count None = omega arith
length_count (Some n) = omega arith

few : (c : Command) (len : Option ℕ) → length (sent_fields c len) ≤ 64
few c len =
    let a : List Field = optional_field (codes "X-Vault-Token") c.token in
    let b : List Field = optional_field (codes "X-Vault-Wrap-TTL") c.wrap_ttl in
    let d : List Field = field (codes "Connection") (codes "close") ∷ length_field len in
    omega (
      arith,
      length-append a (b ++ d),
      length-append b d,
      optional_count (codes "X-Vault-Token") c.token,
      optional_count (codes "X-Vault-Wrap-TTL") c.wrap_ttl,
      length_count len,
    )

pub length-field_line : (name value : List ℕ) → length (field_line name value) ≡ length name + 2 + length value + 2
length-field_line name value = simp length-append

optional_short : (name : List ℕ) (o : Option (List ℕ)) → IsOptionalField o
    → length (optional_line name o) ≤ length name + 1028
optional_short name None good = omega arith
optional_short name (Some t) good = omega (arith, length-field_line name t, (field_parts t good).1)

length_short : (o : Option ℕ) → IfSome o (λ n. n ≤ longest_body) → length (length_line o) ≤ 25
length_short None short = omega arith
length_short (Some n) short = omega (
  arith,
  length-field_line (codes "Content-Length") (decimal n),
  length-decimal-le 7 n (lit< tt) (omega arith) (omega arith),
)

method_short : (r : Request) → length (method_of r) ≤ 6
method_short (Request.Read path version) = omega arith
method_short (Request.Write path body) = omega arith
method_short (Request.List path) = omega arith
method_short (Request.Delete path) = omega arith
method_short (Request.Unwrap t) = omega arith

line_length : (m e q : List ℕ) → length (m ++ codes " /v1/" ++ e ++ q ++ codes " HTTP/1.1" ++ (13 ∷ 10 ∷ []))
    ≡ length m + 5 + length e + length q + 9 + 2
line_length m e q = simp length-append

query_short : (version : Option ℕ) → IfSome version (λ n. n < 2 ^ 64) → length (query_line version) ≤ 29
query_short None small = omega arith
query_short (Some version) small = omega (
  arith,
  length-append (codes "?version=") (decimal version),
  length-decimal-le 20 version (lit< tt) (omega arith) small,
)

line_short : (r : Request) → IfSome (version_of r) (λ n. n < 2 ^ 64) → length (path_of r) ≤ 512
    → length (request_line r) ≤ 1629
line_short r small short =
    omega (
      arith,
      line_length (method_of r) (escaped (path_of r)) (query_line (version_of r)),
      method_short r,
      length-escaped (path_of r),
      query_short (version_of r) small,
    )

pub lines_length : (a b d e f g : List ℕ) → length (a ++ b ++ d ++ e ++ f ++ g ++ (13 ∷ 10 ∷ [])) ≡ length a + length b
    + length d + length e + length f + length g + 2
lines_length a b d e f g = simp length-append

head_short : (c : Command) (len : Option ℕ) → is_field_text c.address ≡ true → IsOptionalField c.token
    → IsOptionalField c.wrap_ttl → IfSome len (λ n. n ≤ longest_body)
    → IfSome (version_of c.request) (λ n. n < 2 ^ 64) → length (path_of c.request) ≤ 512
    → length (head_lines c len) ≤ longest_head
head_short c len address vault ttl short small path =
    let token = optional_line (codes "X-Vault-Token") c.token in
    let wrap_ttl = optional_line (codes "X-Vault-Wrap-TTL") c.wrap_ttl in
    omega (
      arith,
      lines_length (request_line c.request) (field_line (codes "Host") c.address) token wrap_ttl
          (field_line (codes "Connection") (codes "close")) (length_line len),
      line_short c.request small path,
      length-field_line (codes "Host") c.address,
      (field_parts c.address address).1,
      optional_short (codes "X-Vault-Token") c.token vault,
      optional_short (codes "X-Vault-Wrap-TTL") c.wrap_ttl ttl,
      length_short len short,
    )

-- ---- the paths and bodies of requests

pub path_good : (r : Request) → IsSendable r → IsPathText (path_of r)
path_good (Request.Read path version) good = good.0
path_good (Request.Write path body) good = good.0
path_good (Request.List path) good = good
path_good (Request.Delete path) good = good
path_good (Request.Unwrap t) good = record {
  good = refl;
  text = visible_text (codes "sys/wrapping/unwrap")
      (AllPass-from_list_all is_visible (codes "sys/wrapping/unwrap") refl);
  bytes = All-weaker (λ b. is_visible b ≡ true) (λ b. b < 256) byte (codes "sys/wrapping/unwrap")
      (AllPass-from_list_all is_visible (codes "sys/wrapping/unwrap") refl);
}
  where
    byte : (b : ℕ) → is_visible b ≡ true → b < 256
    byte b visible = grind (arith, nat_tests)

pub version_small : (r : Request) → IsSendable r → IfSome (version_of r) (λ n. n < 2 ^ 64)
version_small (Request.Read path version) good = good.1
version_small (Request.Write path body) good = tt
version_small (Request.List path) good = tt
version_small (Request.Delete path) good = tt
version_small (Request.Unwrap t) good = tt

escape_short : (b : ℕ) → length (escape_byte b) ≤ 6
unfolding escape_byte
escape_short b = by (nat_lt 0 (escape_letter b)) (nat_lt b 32)
  where
    by : (s t : Bool) → length (cond s (92 ∷ escape_letter b ∷ [])
        (cond t (92 ∷ 117 ∷ 48 ∷ 48 ∷ digit_char (b / 16) ∷ digit_char (b % 16) ∷ []) (b ∷ []))) ≤ 6
    by true t = omega arith
    by false true = omega arith
    by false false = omega arith

length-escape : (t : List ℕ) → length (escape t) ≤ 6 * length t
length-escape [] = omega arith
length-escape (b ∷ bs) = omega (arith, length-append (escape_byte b) (escape bs), escape_short b, length-escape bs)

unwrap_short : (o : Option (List ℕ)) → IfSome o (λ t. is_short_text t ≡ true)
    → length (compact_text (unwrap_object o)) ≤ longest_body
unwrap_short None good = omega arith
unwrap_short (Some t) good =
    let short : length t ≤ 1024 = leb-true (length t) 1024 good in
    omega (arith, length-escape (codes "token"), length-escape t, whole (escape (codes "token")) (escape t))
  where
    whole : (k e : List ℕ) → length (123 ∷ ((34 ∷ (k ++ 34 ∷ [])) ++ 58 ∷ ((34 ∷ (e ++ 34 ∷ [])) ++ 125 ∷ [])))
        ≡ length k + length e + 7
    whole k e = simp length-append (omega arith)

pub body_short : (r : Request) → IsSendable r → IfSome (option_map length (body_of r)) (λ n. n ≤ longest_body)
body_short (Request.Read path version) good = tt
body_short (Request.Write path body) good = good.1
body_short (Request.List path) good = tt
body_short (Request.Delete path) good = tt
body_short (Request.Unwrap t) good = unwrap_short t good

-- ---- it can be sent

-- the length that is told is that of the body
told : PrintedLengthIsRead → (o : Option (List ℕ)) → IfSome (option_map length o) (λ n. n ≤ longest_body)
    → content_length (values_in (codes "content-length") (length_field (option_map length o)))
    ≡ Ok (length (unwrap_or o []))
told law None short = refl
told law (Some body) short =
    ap (λ (v : List ℕ). content_length (v ∷ []))
    (trim_visible (decimal (length body)) (decimal_visible (length body) (omega arith)))
    ∙ law (length body) short

pub can_be_sent : PrintedLengthIsRead → (c : Command) → is_field_text c.address ≡ true → IsOptionalField c.token
    → IsOptionalField c.wrap_ttl → IsSendable c.request
    → CanBeSent (printed_head (method_of c.request) (target_to (path_of c.request) (version_of c.request))
    (sent_fields c (option_map length (body_of c.request)))) (unwrap_or (body_of c.request) [])
can_be_sent law c address vault ttl good =
    let len = option_map length (body_of c.request) in
    let path = path_of c.request in
    let short = body_short c.request good in
    let small = version_small c.request good in
    let target = target_to path (version_of c.request) in
    let visible = target_visible path (version_of c.request) small in
    record {
      valid = record {
        method = method_token c.request;
        target = (
          omega arith,
          All-weaker (λ b. is_visible b ≡ true) (λ b. is_uri_byte b ≡ true) uri_byte
              target visible,
        );
        target_text = visible_text target visible;
        minor = omega arith;
        fields = fields_valid c len address vault ttl short;
      };
      ends = fields_end c len;
      few = few c len;
      short = subst (λ (bytes : List ℕ). length bytes ≤ longest_head) (sym (printed c len))
          (head_short c len address vault ttl short small (path_parts path (path_good c.request good).good).1);
      host = host_once c len;
      uncoded = uncoded c len;
      body_length = ap content_length (length_sent c len) ∙ told law (body_of c.request) short;
    }
