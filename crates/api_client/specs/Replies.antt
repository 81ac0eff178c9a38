-- Replies as the client reads them (RFC 9112, sections 4 to 6). The limits are this project's.
use Rattle.std.specs.Prelude.{◌≡◌, ◌≤◌, ◌++◌, ◌∷◌, if◌then◌else◌, ◌&&◌, ℕ, List, [], length, map, codes, nat_le, Option}
use Rattle.broker_types.specs.Words.{Some, None, digits_value}
use Rattle.httparse.specs.Grammar.{ResponseHead, ReadsResponse, print_response, status_code}
use Rattle.httparse.specs.Spans.{name_and_value}
use Rattle.http_layer.specs.Words.{is_number, HeadField, values_named}
use Rattle.api_client.specs.declared.reply.Reply.{Reply}

-- how many bytes the head of a reply has at most, with the empty lines before and after it
abbrev pub longest_reply_head : ℕ
longest_reply_head = 16384

-- how many fields a reply has at most
abbrev pub most_fields : ℕ
most_fields = 64

-- how many bytes the body of a reply has at most
abbrev pub longest_reply_body : ℕ
longest_reply_body = 16777216

-- the length that the value tells, if it is a number (RFC 9110, section 8.6) and not above the limit
abbrev pub length_told : List ℕ → Option ℕ
length_told v = if is_number v && nat_le (digits_value 10 v) longest_reply_body then Some (digits_value 10 v) else None

-- the length of the body by the values of Content-Length: that of the first, and 0 without one
abbrev pub first_length : List (List ℕ) → Option ℕ
first_length [] = Some 0
first_length (v ∷ vs) = length_told v

-- the length of the body by the fields of the reply
abbrev pub reply_length : List HeadField → Option ℕ
reply_length fields = first_length (values_named (codes "content-length") fields)

-- The bytes begin with this reply: a head of `httparse`'s grammar that is within the limits (RFC 9112, sections 4 and
-- 5), and as many bytes of body as its fields tell (section 6.3).
pub record BeginsWithReply (bytes : List ℕ) (reply : Reply) : Type 0 where
  pub head : ResponseHead
  pub after : List ℕ
  pub reads : ReadsResponse bytes head (reply.body ++ after)
  pub short : length (print_response head) ≤ longest_reply_head
  pub few : length head.fields ≤ most_fields
  pub status : reply.status ≡ status_code head
  pub told : reply_length (map name_and_value head.fields) ≡ Some (length reply.body)
