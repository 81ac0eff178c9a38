-- A request that a client prints (RFC 9112, sections 2.1, 3 and 5).
use Rattle.std.specs.Prelude.{◌≡◌, ◌≤◌, ℕ, List, [], length, map, codes, All, Ok}
use Rattle.httparse.specs.Grammar.{crlf, Field, RequestHead, IsRequestHead, print_request}
use Rattle.httparse.specs.Spans.{name_and_value}
use Rattle.http_layer.specs.Front.{longest_head, content_length}
use Rattle.http_layer.specs.HeadParts.{values_named}

-- the head of HTTP/1.1 with this method, this target and these fields, and with CR LF at the end of its own lines
abbrev pub printed_head : List ℕ → List ℕ → List Field → RequestHead
printed_head method target fields =
    record { blank = []; method = method; target = target; minor = 1; line_end = crlf; fields = fields; last = crlf }

-- The head can be sent before this body: it is one of the grammar, its fields end in CR LF, it is within the limits,
-- and it has one Host field, no Transfer-Encoding field and the length of the body (RFC 9112, sections 3.2 and 6.3).
pub record CanBeSent (h : RequestHead) (body : List ℕ) : Type 0 where
  pub valid : IsRequestHead h
  pub ends : All (λ f. f.end ≡ crlf) h.fields
  pub few : length h.fields ≤ 64
  pub short : length (print_request h) ≤ longest_head
  pub host : length (values_named (codes "host") (map name_and_value h.fields)) ≡ 1
  pub uncoded : values_named (codes "transfer-encoding") (map name_and_value h.fields) ≡ []
  pub body_length :
      content_length (values_named (codes "content-length") (map name_and_value h.fields)) ≡ Ok (length body)
