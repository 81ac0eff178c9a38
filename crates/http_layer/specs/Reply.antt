-- The bytes of a reply, line by line (RFC 9112, sections 2.1 and 4; RFC 9110, sections 6.6.1, 8.6, 10.2.1 and 15).
use Rattle.std.specs.Prelude.{◌≡◌, ◌∷◌, ◌++◌, ℕ, Bool, true, false, List, [], length, codes, decimal, unwrap_or}
use Rattle.http.specs.StatusCode.{code_digits, reason_phrase}
use Rattle.httpdate.specs.Date.{unix_secs, date_text}
use Rattle.httpdate.specs.declared.date.HttpDate.{HttpDate}
use Rattle.broker_types.specs.Words.{Text, status_code, Response}
use Rattle.broker_types.specs.declared.status.Status.{Status}
use Rattle.broker_types.specs.declared.status.Status.TheVariants.{NoContent, MethodNotAllowed, NotImplemented}
use Rattle.broker_types.specs.declared.status.Methods.{Methods}

-- CR LF, the end of a line (RFC 9112, section 2.1)
abbrev pub crlf : Text
crlf = 13 ∷ 10 ∷ []

-- the reason phrase of a status (RFC 9110, section 15)
abbrev pub phrase_of : Status → Text
phrase_of status = unwrap_or (reason_phrase (status_code status)) []

-- the status line (RFC 9112, section 4)
abbrev pub status_line : Status → Text
status_line status = codes "HTTP/1.1 " ++ code_digits (status_code status) ++ codes " " ++ phrase_of status ++ crlf

-- these names, if the path has their method
abbrev pub names_if : Bool → List Text → List Text
names_if true names = names
names_if false names = []

-- the names of the methods of a path, in the order GET, LIST, POST, PUT, DELETE
abbrev pub method_names : Methods → List Text
method_names m =
    names_if m.get (codes "GET" ∷ []) ++ names_if m.list (codes "LIST" ∷ [])
    ++ names_if m.write (codes "POST" ∷ codes "PUT" ∷ []) ++ names_if m.delete (codes "DELETE" ∷ [])

-- the texts with a comma and a space between them (RFC 9110, section 5.6.1)
abbrev pub comma_joined : List Text → Text
comma_joined [] = []
comma_joined (x ∷ []) = x
comma_joined (x ∷ y ∷ xs) = x ++ codes ", " ++ comma_joined (y ∷ xs)

-- the `Date` field, with the text of the date (RFC 9110, section 6.6.1)
abbrev pub date_line : Text → Text
date_line date = codes "Date: " ++ date ++ crlf

-- the `Allow` field, only on 405 (RFC 9110, sections 10.2.1 and 15.5.6)
abbrev pub allow_line : Status → Methods → Text
allow_line MethodNotAllowed m = codes "Allow: " ++ comma_joined (method_names m) ++ crlf
allow_line _ m = []

-- the `Cache-Control` field (RFC 9111, section 5.2.2.5)
abbrev pub cache_line : Text
cache_line = codes "Cache-Control: no-store" ++ crlf

-- the `Connection` field, if the connection closes (RFC 9112, section 9.6)
abbrev pub connection_line : Bool → Text
connection_line true = codes "Connection: close" ++ crlf
connection_line false = []

-- The fields on the body, which has so many bytes (RFC 9110, sections 8.3 and 8.6): none on 204, and no type on 501,
-- which has no body.
abbrev pub body_lines : Status → ℕ → Text
body_lines NoContent len = []
body_lines NotImplemented len = codes "Content-Length: 0" ++ crlf
body_lines _ len = codes "Content-Type: application/json" ++ crlf ++ codes "Content-Length: " ++ decimal len ++ crlf

-- the body: none on 204 (RFC 9110, section 15.3.5) and on 501
abbrev pub reply_body : Status → Text → Text
reply_body NoContent text = []
reply_body NotImplemented text = []
reply_body _ text = text

-- the head, with the text of the date; an empty line ends it (RFC 9112, section 2.1)
abbrev pub reply_head : Response → Text → Bool → Text
reply_head r date close =
    status_line r.status ++ date_line date ++ allow_line r.status r.methods ++ cache_line
    ++ connection_line close ++ body_lines r.status (length r.text) ++ crlf

-- These are the bytes of the reply at the moment, dated with that second (RFC 9112, section 2.1; RFC 9110,
-- section 5.6.7).
pub record IsReply (r : Response) (moment : ℕ) (close : Bool) (bytes : List ℕ) : Type 0 where
  pub date : HttpDate
  pub at_moment : unix_secs date ≡ moment
  pub bytes_are : bytes ≡ reply_head r (date_text date) close ++ reply_body r.status r.text
