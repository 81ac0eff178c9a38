-- Requests of operators, and the replies to them (RFC 9110, RFC 9112).
use Rattle.std.specs.Prelude.{◌≡◌, ◌++◌, ◌||◌, if◌then◌else◌, ℕ, Bool, true, false, [], Option, Some, None}
use Rattle.std.specs.Prelude.{length, codes, decimal, bytes_eq, nat_lt, nat_le}
use Rattle.broker_types.specs.declared.status.Status.{Status}
use Rattle.broker_types.specs.declared.status.Status.TheVariants as status
use Rattle.httpdate.specs.Date.{unix_secs, date_text}
use Rattle.httpdate.specs.declared.date.HttpDate.{HttpDate}
use Rattle.http_layer.specs.Front.{Front, IsFront, need, refused_with, whole}
use Rattle.http_layer.specs.HeadParts.{HeadParts}
use Rattle.http_layer.specs.Query.{target_path}
use Rattle.http_layer.specs.Reply.{date_line}
use Rattle.status.specs.declared.figures.Figures.{Figures}
use Rattle.status.specs.declared.figures.State.{State}
use Rattle.status.specs.declared.figures.State.TheVariants.{Opening, Serving, Stopping}
use Rattle.status.specs.declared.target.Asked.{Asked}
use Rattle.status.specs.declared.target.Asked.TheVariants as asked
use Rattle.status.specs.declared.target.Code.{Code}
use Rattle.status.specs.declared.target.Code.TheVariants as code
use Rattle.status.specs.declared.target.Shown.{Shown}
use Rattle.status.specs.declared.target.Shown.TheVariants as shown
use Rattle.status.specs.Counts.{Counts}
use Rattle.status.specs.Health.{health_text}
use Rattle.status.specs.Page.{page_text}
use Rattle.status.specs.Printed.{metrics_text}
use Rattle.status.specs.Samples.{Text}

-- ---- what is asked for

-- how many bytes a head has at most: this project's limit
abbrev pub longest_status_head : ℕ
longest_status_head = 2048

-- what is shown at a path; `/v1/sys/health` is that of Vault
abbrev pub shown_at : Text → Option Shown
shown_at path =
    if bytes_eq path (codes "/health") || bytes_eq path (codes "/v1/sys/health") then Some shown.Health
    else if bytes_eq path (codes "/metrics") then Some shown.Metrics
    else if bytes_eq path (codes "/") then Some shown.Page
    else None

-- what a method asks for at a path that shows something: GET with the body, HEAD without it (RFC 9110, section 9.3)
abbrev pub asked_for : Shown → Text → Asked
asked_for s method =
    if bytes_eq method (codes "GET") then asked.Shown s true
    else if bytes_eq method (codes "HEAD") then asked.Shown s false
    else asked.Nothing code.MethodNotAllowed

-- the same, if the path shows something
abbrev pub asked_at : Option Shown → Text → Asked
asked_at (Some s) method = asked_for s method
asked_at None method = asked.Nothing code.NotFound

-- what a whole head asks for; the query does not count
abbrev pub asked_by : HeadParts → Asked
asked_by h = asked_at (shown_at (target_path h.target)) h.method

-- the status of a refusal of bytes that are no head
abbrev pub code_of : Status → Code
code_of status.PayloadTooLarge = code.ContentTooLarge
code_of status.HeaderFieldsTooLarge = code.HeaderFieldsTooLarge
code_of status.NotImplemented = code.NotImplemented
code_of _ = code.BadRequest

-- what a request asks for that has so many bytes
abbrev pub asked_within : ℕ → HeadParts → Asked
asked_within size head =
    if nat_le size longest_status_head then asked_by head else asked.Nothing code.HeaderFieldsTooLarge

-- what a front asks for, of so many bytes
abbrev pub asked_of : ℕ → Front → Asked
asked_of len need = if nat_lt len longest_status_head then asked.Unended else asked.Nothing code.HeaderFieldsTooLarge
asked_of len (refused_with s) = asked.Nothing (code_of s)
asked_of len (whole size head body) = asked_within size head

-- this is what the bytes ask for (RFC 9112, sections 2 to 6)
pub record IsAsked (bytes : Text) (a : Asked) : Type 0 where
  pub front : Front
  pub is_front : IsFront bytes front
  pub asked_is : a ≡ asked_of (length bytes) front

-- ---- the reply

abbrev pub status_line : Code → Text
status_line code.Success = codes "HTTP/1.1 200 OK\r\n"
status_line code.BadRequest = codes "HTTP/1.1 400 Bad Request\r\n"
status_line code.NotFound = codes "HTTP/1.1 404 Not Found\r\n"
status_line code.MethodNotAllowed = codes "HTTP/1.1 405 Method Not Allowed\r\n"
status_line code.ContentTooLarge = codes "HTTP/1.1 413 Content Too Large\r\n"
status_line code.HeaderFieldsTooLarge = codes "HTTP/1.1 431 Request Header Fields Too Large\r\n"
status_line code.NotImplemented = codes "HTTP/1.1 501 Not Implemented\r\n"
status_line code.ServiceUnavailable = codes "HTTP/1.1 503 Service Unavailable\r\n"

-- the methods that there are, if the method is why the request is refused (RFC 9110, section 15.5.6)
abbrev pub allow_line : Code → Text
allow_line code.MethodNotAllowed = codes "Allow: GET, HEAD\r\n"
allow_line _ = []

-- the head of a reply: each closes the connection
unfoldable pub reply_head : Code → Text → Text → ℕ → Text
reply_head c date type_line len =
    status_line c ++ date_line date ++ allow_line c ++ codes "Cache-Control: no-store\r\nConnection: close\r\n"
    ++ type_line ++ codes "Content-Length: " ++ decimal len ++ codes "\r\n\r\n"

-- the type of what is shown
abbrev pub type_line : Shown → Text
type_line shown.Health = codes "Content-Type: application/json\r\n"
type_line shown.Metrics = codes "Content-Type: text/plain; version=0.0.4; charset=utf-8\r\n"
type_line shown.Page = codes "Content-Type: text/html; charset=utf-8\r\n"

-- 200 while requests are served, else 503
abbrev pub health_code : State → Code
health_code Serving = code.Success
health_code Opening = code.ServiceUnavailable
health_code Stopping = code.ServiceUnavailable

-- the status of what is shown
abbrev pub shown_code : Shown → State → Code
shown_code shown.Health state = health_code state
shown_code shown.Metrics state = code.Success
shown_code shown.Page state = code.Success

-- what is shown
abbrev pub shown_text : Shown → Counts → Figures → Text
shown_text shown.Health c f = health_text f
shown_text shown.Metrics c f = metrics_text c f
shown_text shown.Page c f = page_text c f

-- the body of a reply: HEAD has none
abbrev pub sent_body : Bool → Text → Text
sent_body true text = text
sent_body false text = []

-- the reply that shows a text
abbrev pub shown_reply : Shown → Bool → State → Text → Text → Text
shown_reply s sends_body state date text =
    reply_head (shown_code s state) date (type_line s) (length text) ++ sent_body sends_body text

-- the reply to what is asked for; none if the head has not ended
abbrev pub reply_to : Asked → Counts → Figures → Text → Option Text
reply_to asked.Unended c f date = None
reply_to (asked.Nothing refusal) c f date = Some (reply_head refusal date [] 0)
reply_to (asked.Shown s sends_body) c f date = Some (shown_reply s sends_body f.state date (shown_text s c f))

-- this is the reply to the request whose head these bytes are, none if more of them are needed
pub record IsReplyTo (bytes : Text) (c : Counts) (f : Figures) (reply : Option Text) : Type 0 where
  pub asks : Asked
  pub is_asked : IsAsked bytes asks
  pub date : HttpDate
  pub at_moment : unix_secs date ≡ f.now
  pub reply_is : reply ≡ reply_to asks c f (date_text date)
