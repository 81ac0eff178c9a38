-- The first request of a stream of bytes (RFC 9112, sections 2 to 6).
use Rattle.std.specs.Prelude.{◌≡◌, ◌+◌, ◌-◌, ◌<◌, ◌≤◌, ◌==◌, ◌||◌, ◌&&◌, ◌∷◌, if◌then◌else◌, ℕ, Bool, true, false, List}
use Rattle.broker_types.specs.Words.{[], length, take, drop, codes, nat_lt, nat_le, Result, Ok, Err, slice_range}
use Rattle.broker_types.specs.Words.{prefix_len, list_all, is_ascii_digit, digits_value, longest_body}
use Rattle.broker_types.specs.declared.status.Status.{Status}
use Rattle.broker_types.specs.declared.status.Status.TheVariants.{BadRequest, PayloadTooLarge, HeaderFieldsTooLarge}
use Rattle.broker_types.specs.declared.status.Status.TheVariants.{NotImplemented}
use Rattle.http_layer.specs.HeadParts.{HeadParts, IsHead, values_named}

-- ---- where the head ends

-- whether the byte is CR or LF
abbrev pub is_line_byte : ℕ → Bool
is_line_byte b = (b == 13) || (b == 10)

-- CR LF CR LF begins at this place: the end of a line, and an empty line
abbrev pub HasEmptyLineAt : List ℕ → ℕ → Type 0
HasEmptyLineAt s place = take 4 (drop place s) ≡ 13 ∷ 10 ∷ 13 ∷ 10 ∷ []

-- The head is the first len bytes of s: they end with the first CR LF CR LF that begins at or after the first byte
-- which is neither CR nor LF (RFC 9112, section 2.1, and section 2.2 on empty lines before the request).
pub record HeadEnds (s : List ℕ) (len : ℕ) : Type 0 where
  pub started : prefix_len is_line_byte s + 4 ≤ len
  pub ended : HasEmptyLineAt s (len - 4)
  pub first : (k : ℕ) → prefix_len is_line_byte s ≤ k → k + 4 < len → ¬ (HasEmptyLineAt s k)

-- no head ends in s
abbrev pub HasNoHeadEnd : List ℕ → Type 0
HasNoHeadEnd s = (len : ℕ) → ¬ (HeadEnds s len)

-- how many bytes the longest head has, with the empty lines before and after it: this project's limit
abbrev pub longest_head : ℕ
longest_head = 16384

-- the bytes in which the head has to end: the first 16,384, the empty lines before it among them
abbrev pub window : List ℕ → List ℕ
window s = take longest_head s

-- whether a head that has not ended within these bytes is refused: no more of them are waited for
abbrev pub is_too_long : List ℕ → Bool
is_too_long s = nat_le longest_head (length s)

-- ---- what the head says of the body

-- whether the value is one or more digits (RFC 9110, section 8.6)
abbrev pub is_number : List ℕ → Bool
is_number v = nat_lt 0 (length v) && list_all is_ascii_digit v

-- The length of the body from the values of Content-Length, or the status of a refusal (RFC 9112, section 6.3; RFC
-- 9110, sections 8.6 and 15.5.14): at most one value, of digits, and at most 1,048,576 (this project's limit).
abbrev pub content_length : List (List ℕ) → Result ℕ Status
content_length [] = Ok 0
content_length (v ∷ []) =
    if is_number v
    then (if nat_le (digits_value 10 v) longest_body then Ok (digits_value 10 v) else Err PayloadTooLarge)
    else Err BadRequest
content_length (v ∷ w ∷ vs) = Err BadRequest

-- whether a head of HTTP/1.x, whose minor version is given, may have so many Host fields (RFC 9112, section 3.2)
abbrev pub may_have_hosts : ℕ → ℕ → Bool
may_have_hosts minor hosts = if minor == 0 then nat_le hosts 1 else hosts == 1

-- The length of the body, or the status of the first refusal: of a transfer coding, none of which is implemented (RFC
-- 9112, section 6.1), of the Host fields, or of the length (section 6.3). The order is this project's.
abbrev pub body_length : HeadParts → Result ℕ Status
body_length p =
    if nat_lt 0 (length (values_named (codes "transfer-encoding") p.fields)) then Err NotImplemented
    else if may_have_hosts p.minor (length (values_named (codes "host") p.fields))
    then content_length (values_named (codes "content-length") p.fields)
    else Err BadRequest

-- ---- the front

-- What a stream begins with: not known before more bytes come, a refusal with a status, or a whole request of so many
-- bytes, with its head and its body.
pub data Front : Type 0 where
  need : Front
  refused_with : Status → Front
  whole : ℕ → HeadParts → List ℕ → Front

-- what is known of the head: it has not ended, it is too long, it is no head of the grammar, or it has these parts
pub data HeadFront : Type 0 where
  unended too_long malformed : HeadFront
  read : HeadParts → HeadFront

-- this is what is known of the head of s (RFC 9112, sections 2 to 5)
abbrev pub IsHeadFront : List ℕ → HeadFront → Type 0
IsHeadFront s unended = (is_too_long s ≡ false) × HasNoHeadEnd (window s)
IsHeadFront s too_long = (is_too_long s ≡ true) × HasNoHeadEnd (window s)
IsHeadFront s malformed = (len : ℕ) × HeadEnds (window s) len × ((p : HeadParts) → ¬ (IsHead (take len s) p))
IsHeadFront s (read p) = HeadEnds (window s) p.size × IsHead (take p.size s) p

-- the front, if the head has these parts and its body so many bytes (RFC 9112, section 6)
abbrev pub front_of_body : List ℕ → HeadParts → Result ℕ Status → Front
front_of_body s p (Ok n) =
    if nat_le (p.size + n) (length s) then whole (p.size + n) p (slice_range s p.size (p.size + n)) else need
front_of_body s p (Err status) = refused_with status

-- the front, from what is known of the head
abbrev pub front_of_head : List ℕ → HeadFront → Front
front_of_head s unended = need
front_of_head s too_long = refused_with HeaderFieldsTooLarge
front_of_head s malformed = refused_with BadRequest
front_of_head s (read p) = front_of_body s p (body_length p)

-- f is what the stream s begins with (RFC 9112, sections 2 to 6)
pub record IsFront (s : List ℕ) (f : Front) : Type 0 where
  pub head : HeadFront
  pub is_head : IsHeadFront s head
  pub front : f ≡ front_of_head s head
