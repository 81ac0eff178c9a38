-- Lines of the log (this project's format). The time is that of RFC 3339, section 5.6; an object is that of RFC 8259.
use Rattle.std.specs.Prelude.{◌&&◌, ◌||◌, ◌==◌, ◌/◌, if◌then◌else◌, ◌∷◌, ◌++◌, ℕ, Bool, nat_lt, bytes_eq, not, [], map}
use Rattle.std.specs.Prelude.{take, codes, decimal}
use Rattle.std.specs.Net.Text.{socket_text}
use Rattle.records.specs.Words.{Option, Some, None, Text, time_text, Verb, Get, Write, Delete}
use Rattle.broker_types.specs.declared.ask.Verb.TheVariants.{List as Listing}
use Rattle.server.specs.declared.log_line.Asked.{Asked}
use Rattle.server.specs.declared.notes.Noted.{Noted}
use Rattle.server.specs.declared.time_text.TimeText.{TimeText}

-- the moment of a text
abbrev pub moment_of : TimeText → ℕ
moment_of time = time.moment

-- a byte that JSON escapes and that is no control character: a quotation mark, a backslash
abbrev pub is_escaped : ℕ → Bool
is_escaped b = b == 34 || b == 92

-- a byte of a path: `?` in place of a space, of what JSON escapes, and of all that is no ASCII character
abbrev pub shown_byte : ℕ → ℕ
shown_byte b = if nat_lt 32 b && nat_lt b 127 && not (is_escaped b) then b else 63

-- a byte of what became of the program: `?` in place of what JSON escapes, and of DEL
abbrev pub plain_byte : ℕ → ℕ
plain_byte b = if nat_lt b 32 || b == 127 || is_escaped b then 63 else b

-- a segment of a path; one that begins as a token does is not shown
abbrev pub shown_segment : Text → Text
shown_segment s = if bytes_eq (take 4 s) (codes "hvs.") then codes "hvs.*" else map shown_byte s

-- a path, segment by segment; `begun` is what was read of the first
abbrev pub shown_path : Text → Text → Text
shown_path begun [] = shown_segment begun
shown_path begun (c ∷ cs) =
    if c == 47 then shown_segment begun ++ 47 ∷ shown_path [] cs else shown_path (begun ++ c ∷ []) cs

-- the method of a verb; PUT is shown as POST
abbrev pub method_of : Verb → Text
method_of Get = codes "GET"
method_of Listing = codes "LIST"
method_of Write = codes "POST"
method_of Delete = codes "DELETE"

-- the verb, and the path as it is shown
abbrev pub asked_of : Asked → Verb × Text
asked_of asked = (asked.verb, asked.path.items)

-- the method and the path, if they were read
abbrev pub asked_text : Option Asked → Text
asked_text None = codes "- -"
asked_text (Some asked) = method_of asked.verb ++ codes " /v1/" ++ asked.path.items

-- their members in an object
abbrev pub method_member : Option Asked → Text
method_member None = codes ",\"method\":null"
method_member (Some asked) = codes ",\"method\":\"" ++ method_of asked.verb ++ codes "\""

abbrev pub path_member : Option Asked → Text
path_member None = codes ",\"path\":null"
path_member (Some asked) = codes ",\"path\":\"/v1/" ++ asked.path.items ++ codes "\""

-- the status of the reply, or what stands for none
abbrev pub status_text : Text → Option ℕ → Text
status_text absent None = absent
status_text absent (Some code) = decimal code

-- an identifier between these marks, or what stands for none
abbrev pub identifier_text : Text → Text → Option Text → Text
identifier_text mark absent None = absent
identifier_text mark absent (Some id) = mark ++ id ++ mark

-- a line for people
abbrev pub text_line : ℕ → Noted → Text
text_line moment noted =
    time_text moment ++ codes " " ++ status_text (codes "-") noted.status ++ codes " "
    ++ decimal (noted.micros / 1000) ++ codes "ms " ++ asked_text noted.asked
    ++ codes " peer=" ++ socket_text noted.traffic.peer
    ++ codes " accessor=" ++ identifier_text [] (codes "-") noted.accessor
    ++ codes " request_id=" ++ identifier_text [] (codes "-") noted.request_id
    ++ codes " in=" ++ decimal noted.traffic.bytes_in ++ codes " out=" ++ decimal noted.traffic.bytes_out

-- a line for machines
abbrev pub object_line : ℕ → Noted → Text
object_line moment noted =
    codes "{\"time\":\"" ++ time_text moment ++ codes "\",\"status\":" ++ status_text (codes "null") noted.status
    ++ codes ",\"micros\":" ++ decimal noted.micros
    ++ method_member noted.asked ++ path_member noted.asked
    ++ codes ",\"peer\":\"" ++ socket_text noted.traffic.peer
    ++ codes "\",\"accessor\":" ++ identifier_text (codes "\"") (codes "null") noted.accessor
    ++ codes ",\"request_id\":" ++ identifier_text (codes "\"") (codes "null") noted.request_id
    ++ codes ",\"bytes_in\":" ++ decimal noted.traffic.bytes_in
    ++ codes ",\"bytes_out\":" ++ decimal noted.traffic.bytes_out ++ codes "}"

-- what became of the program, for people
abbrev pub event_text : ℕ → Text → Text
event_text moment event = time_text moment ++ codes " " ++ map plain_byte event

-- the same for machines
abbrev pub event_object : ℕ → Text → Text
event_object moment event =
    codes "{\"time\":\"" ++ time_text moment ++ codes "\",\"event\":\"" ++ map plain_byte event ++ codes "\"}"
