-- The bytes that a server writes for a response, as the client reads them.
use Rattle.httpdate.specs.Text.{day_name, four_digits, month_name, time_of_day, two_digits}
use Rattle.http_layer.specs.Words.{allow_line, body_lines, cache_line, comma_joined, connection_line, date_line}
use Rattle.http_layer.specs.Words.{method_names, phrase_of, reply_body, reply_head, status_line, Status}
use Rattle.broker_types.specs.Words.{slice_index_or, and_from, le-leb, Response, status_code}
use Rattle.api_client.specs.Words.{◌≡◌, ◌+◌, ◌-◌, ◌/◌, ◌%◌, ◌^◌, ◌<◌, ◌≤◌, ◌==◌, ◌&&◌, ◌||◌, ◌∷◌, ◌++◌, ℕ, zero, suc}
use Rattle.api_client.specs.Words.{nat_le, nat_lt, Bool, true, false, cond, List, [], length, take, map, All, Some}
use Rattle.api_client.specs.Words.{None, codes, decimal, refl, sym, ap, ap₂, ◌∙◌, subst, arith, lit<, append_assoc}
use Rattle.api_client.specs.Words.{append-nil, length-append, flat_map, list_all, is_ascii_digit, digits_value}
use Rattle.api_client.specs.Words.{and_parts, leb-true, same_Some, take-append_seam, nat_tests, decimal_is_IsNumeral}
use Rattle.api_client.specs.Words.{length-decimal-le, flat_map-append, All-append, All-cons, All-head, All-nil}
use Rattle.api_client.specs.Words.{All-tail, All-weaker, AllPass-from_list_all, is_number, response_unique, is_visible}
use Rattle.api_client.specs.Words.{code_digits, days_in_month, is_leap_year, date_text, HttpDate, Field, IsField}
use Rattle.api_client.specs.Words.{IsResponseHead, ResponseHead, crlf, is_token_byte, is_value_byte, print_field}
use Rattle.api_client.specs.Words.{print_response, name_and_value, Methods, digits_all, ReplyIsUnique}
use Rattle.api_client.specs.Words.{WrittenReplyIsRead, first_length, length_told, longest_reply_body}
use Rattle.api_client.specs.Words.{longest_reply_head, most_fields, reply_length, Reply}
use Rattle.httparse.specs.Grammar.{status_code as head_code}
use Rattle.api_client.proofs.SentLemmas.{field, values_in, values_in-append, lines_length}
use Rattle.api_client.proofs.TextLemmas.{AreVisible, decimal_visible, field_raw, trim_visible}

-- ---- the date

-- each byte can stand in the value of a field
abbrev AreValues : List ℕ → Type 0
AreValues t = All (λ b. is_value_byte b ≡ true) t

digit_value_byte : (n : ℕ) → n < 10 → is_value_byte (48 + n) ≡ true
digit_value_byte n small = grind (arith, nat_tests)

two_values : (n : ℕ) → n < 100 → AreValues (two_digits n)
two_values n small =
    All-cons (λ b. is_value_byte b ≡ true) (48 + n / 10) ((48 + n % 10) ∷ []) (digit_value_byte (n / 10) (omega arith))
    (All-cons (λ b. is_value_byte b ≡ true) (48 + n % 10) [] (digit_value_byte (n % 10) (omega arith))
    (All-nil (λ b. is_value_byte b ≡ true)))

-- each name in the list, or none
named : (names : List (List ℕ)) (k : ℕ) → All AreValues names → AreValues (slice_index_or names k [])
named [] k all = All-nil (λ b. is_value_byte b ≡ true)
named (n ∷ ns) zero all = All-head AreValues n ns all
named (n ∷ ns) (suc k) all = named ns k (All-tail AreValues n ns all)

joined : (s t : List ℕ) → AreValues s → AreValues t → AreValues (s ++ t)
joined s t a b = All-append (λ b. is_value_byte b ≡ true) s t a b

literal : (t : List ℕ) → list_all is_value_byte t ≡ true → AreValues t
literal t h = AllPass-from_list_all is_value_byte t h

literals : (ts : List (List ℕ)) → list_all (list_all is_value_byte) ts ≡ true → All AreValues ts
literals ts h = All-weaker (λ t. list_all is_value_byte t ≡ true) AreValues literal ts
    (AllPass-from_list_all (list_all is_value_byte) ts h)

month_days : (y m : ℕ) → days_in_month y m < 100
month_days y m = by (m == 2) (is_leap_year y) ((m == 4) || (m == 6) || (m == 9) || (m == 11))
  where
    by : (a b d : Bool) → cond a (cond b 29 28) (cond d 30 31) < 100
    by true true d = omega arith
    by true false d = omega arith
    by false b true = omega arith
    by false b false = omega arith

abbrev days : List (List ℕ)
days = codes "Mon" ∷ codes "Tue" ∷ codes "Wed" ∷ codes "Thu" ∷ codes "Fri" ∷ codes "Sat" ∷ codes "Sun" ∷ []

abbrev months : List (List ℕ)
months =
    codes "Jan" ∷ codes "Feb" ∷ codes "Mar" ∷ codes "Apr" ∷ codes "May" ∷ codes "Jun" ∷ codes "Jul" ∷ codes
    "Aug" ∷ codes "Sep" ∷ codes "Oct"
    ∷ codes "Nov" ∷ codes "Dec" ∷ []

three_values : (a b d s t : List ℕ) → AreValues a → AreValues b → AreValues d → AreValues s → AreValues t
    → AreValues (a ++ s ++ b ++ t ++ d)
three_values a b d s t one two three first second =
    joined (a ++ s ++ b ++ t) d (joined (a ++ s ++ b) t (joined (a ++ s) b (joined a s one first) two) second) three

date_values : (d : HttpDate) → AreValues (date_text d)
date_values d =
    let p = d.parts in
    let day : p.day < 100 = omega (arith, d.civil.2.1, month_days p.year p.mon) in
    let blank = literal (codes " ") refl in
    let colon = literal (codes ":") refl in
    let begun = three_values (day_name p.wday) (two_digits p.day) (month_name p.mon) (codes ", ") (codes " ")
    (named days (p.wday - 1) (literals days refl))
    (two_values p.day day) (named months (p.mon - 1) (literals months refl)) (literal (codes ", ") refl) blank in
    let year = joined (two_digits (p.year / 100)) (two_digits (p.year % 100))
    (two_values (p.year / 100) (omega (arith, d.civil.0.1))) (two_values (p.year % 100) (omega arith)) in
    let time = three_values (two_digits p.hour) (two_digits p.min) (two_digits p.sec) (codes ":") (codes ":")
    (two_values p.hour (omega (arith, d.time.0)))
    (two_values p.min (omega (arith, d.time.1))) (two_values p.sec (omega (arith, d.time.2))) colon colon in
    let dated = day_name p.wday ++ codes ", " ++ two_digits p.day ++ codes " " ++ month_name p.mon in
    joined (dated ++ codes " " ++ four_digits p.year ++ codes " " ++ time_of_day p) (codes " GMT")
    (three_values dated (four_digits p.year) (time_of_day p) (codes " ") (codes " ") begun year time blank blank)
    (literal (codes " GMT") refl)

name_short : (names : List (List ℕ)) (k : ℕ) → All (λ n. length n ≤ 3) names → length (slice_index_or names k []) ≤ 3
name_short [] k all = omega arith
name_short (n ∷ ns) zero all = All-head (λ m. length m ≤ 3) n ns all
name_short (n ∷ ns) (suc k) all = name_short ns k (All-tail (λ m. length m ≤ 3) n ns all)

names_short : (names : List (List ℕ)) → list_all (λ n. nat_le (length n) 3) names ≡ true → All (λ n. length n ≤ 3) names
names_short names h =
    All-weaker (λ n. nat_le (length n) 3 ≡ true) (λ n. length n ≤ 3) (λ n test. leb-true (length n) 3 test) names
    (AllPass-from_list_all (λ n. nat_le (length n) 3) names h)

date_short : (d : HttpDate) → length (date_text d) ≤ 40
date_short d =
    let p = d.parts in
    omega (
      arith,
      whole (day_name p.wday) (month_name p.mon),
      name_short days (p.wday - 1) (names_short days refl),
      name_short months (p.mon - 1) (names_short months refl),
    )
  where
    whole : (day month : List ℕ)
        → length (day ++ codes ", " ++ two_digits d.parts.day ++ codes " " ++ month ++ codes " "
        ++ four_digits d.parts.year ++ codes " " ++ time_of_day d.parts ++ codes " GMT")
        ≡ length day + length month + 23
    whole day month = simp length-append (omega arith)

-- ---- the head

abbrev allow_fields : Status → Methods → List Field
allow_fields Status.MethodNotAllowed m = field (codes "Allow") (comma_joined (method_names m)) ∷ []
allow_fields _ m = []

abbrev connection_fields : Bool → List Field
connection_fields true = field (codes "Connection") (codes "close") ∷ []
connection_fields false = []

abbrev body_fields : Status → ℕ → List Field
body_fields Status.NoContent len = []
body_fields Status.NotImplemented len = field (codes "Content-Length") (codes "0") ∷ []
body_fields _ len = field (codes "Content-Type") (codes "application/json") ∷ field (codes "Content-Length")
    (decimal len) ∷ []

abbrev reply_fields : Response → List ℕ → Bool → List Field
reply_fields r date close =
    field (codes "Date") date
    ∷ (allow_fields r.status r.methods
    ++ (field (codes "Cache-Control") (codes "no-store") ∷
    (connection_fields close ++ body_fields r.status (length r.text))))

abbrev written_head : Response → List ℕ → Bool → ResponseHead
written_head r date close = record {
  blank = [];
  minor = 1;
  digits = code_digits (status_code r.status);
  reason = Some (phrase_of r.status);
  line_end = crlf;
  fields = reply_fields r date close;
  last = crlf;
}

print_allow : (s : Status) (m : Methods) → flat_map print_field (allow_fields s m) ≡ allow_line s m
print_allow Status.Success m = refl
print_allow Status.NoContent m = refl
print_allow Status.BadRequest m = refl
print_allow Status.Forbidden m = refl
print_allow Status.NotFound m = refl
print_allow Status.MethodNotAllowed m = append-nil (print_field (field (codes "Allow") (comma_joined (method_names m))))
print_allow Status.PayloadTooLarge m = refl
print_allow Status.HeaderFieldsTooLarge m = refl
print_allow Status.InternalServerError m = refl
print_allow Status.NotImplemented m = refl

print_connection : (close : Bool) → flat_map print_field (connection_fields close) ≡ connection_line close
print_connection true = refl
print_connection false = refl

print_typed : (len : List ℕ)
    → print_field (field (codes "Content-Type") (codes "application/json"))
    ++ (print_field (field (codes "Content-Length") len) ++ [])
    ≡ codes "Content-Type: application/json" ++ (13 ∷ 10 ∷ []) ++ codes "Content-Length: " ++ len ++ (13 ∷ 10 ∷ [])
print_typed len = simp (append_assoc, append-nil)

print_body : (s : Status) (len : ℕ) → flat_map print_field (body_fields s len) ≡ body_lines s len
print_body Status.Success len = print_typed (decimal len)
print_body Status.NoContent len = refl
print_body Status.BadRequest len = print_typed (decimal len)
print_body Status.Forbidden len = print_typed (decimal len)
print_body Status.NotFound len = print_typed (decimal len)
print_body Status.MethodNotAllowed len = print_typed (decimal len)
print_body Status.PayloadTooLarge len = print_typed (decimal len)
print_body Status.HeaderFieldsTooLarge len = print_typed (decimal len)
print_body Status.InternalServerError len = print_typed (decimal len)
print_body Status.NotImplemented len = refl

print_fields : (r : Response) (date : List ℕ) (close : Bool)
    → flat_map print_field (reply_fields r date close)
    ≡ date_line date ++ (allow_line r.status r.methods
    ++ (cache_line ++ (connection_line close ++ body_lines r.status (length r.text))))
print_fields r date close =
    let allow = allow_fields r.status r.methods in
    let cache : Field = field (codes "Cache-Control") (codes "no-store") in
    let connection = connection_fields close in
    let body = body_fields r.status (length r.text) in
    ap (λ (l : List ℕ). date_line date ++ l)
    (flat_map-append print_field allow (cache ∷ (connection ++ body))
    ∙ ap₂ (λ (a b : List ℕ). a ++ b) (print_allow r.status r.methods)
    (ap (λ (l : List ℕ). cache_line ++ l)
    (flat_map-append print_field connection body
    ∙ ap₂ (λ (a b : List ℕ). a ++ b) (print_connection close) (print_body r.status (length r.text)))))

regroup : (h d s p n a b e f g : List ℕ)
    → h ++ d ++ (s ++ p) ++ n ++ (a ++ (b ++ (e ++ (f ++ g))) ++ n) ≡ (h ++ d ++ s ++ p ++ n) ++ a ++ b ++ e ++ f ++ g
    ++ n
regroup h d s p n a b e f g = simp append_assoc

-- the head is printed as the reply has it
printed : (r : Response) (date : List ℕ) (close : Bool)
    → print_response (written_head r date close) ≡ reply_head r date close
unfolding print_response
printed r date close =
    let d = code_digits (status_code r.status) in
    let p = phrase_of r.status in
    ap (λ (l : List ℕ). codes "HTTP/1.1" ++ (32 ∷ d) ++ (32 ∷ p) ++ (13 ∷ 10 ∷ []) ++ (l ++ (13 ∷ 10 ∷ [])))
    (print_fields r date close)
    ∙ regroup (codes "HTTP/1.1 ") d (codes " ") p (13 ∷ 10 ∷ []) (date_line date)
    (allow_line r.status r.methods) cache_line (connection_line close) (body_lines r.status (length r.text))

-- ---- statuses and methods

-- the digits, the phrase and the number of a status
abbrev IsPrintable : Status → Type 0
IsPrintable s =
    (list_all is_ascii_digit (code_digits (status_code s)) ≡ true)
    × ((list_all is_value_byte (phrase_of s) && nat_le (length (phrase_of s)) 40) ≡ true)
    × (digits_value 10 (code_digits (status_code s)) ≡ status_code s)

printable : (s : Status) → IsPrintable s
printable Status.Success = (refl, refl, refl)
printable Status.NoContent = (refl, refl, refl)
printable Status.BadRequest = (refl, refl, refl)
printable Status.Forbidden = (refl, refl, refl)
printable Status.NotFound = (refl, refl, refl)
printable Status.MethodNotAllowed = (refl, refl, refl)
printable Status.PayloadTooLarge = (refl, refl, refl)
printable Status.HeaderFieldsTooLarge = (refl, refl, refl)
printable Status.InternalServerError = (refl, refl, refl)
printable Status.NotImplemented = (refl, refl, refl)

abbrev joined_names : Bool → Bool → Bool → Bool → List ℕ
joined_names get list write delete =
    comma_joined (method_names (record { get = get; list = list; write = write; delete = delete }))

names : (a b d e : Bool) → (list_all is_value_byte (joined_names a b d e) && nat_le (length (joined_names a b d e)) 40)
    ≡ true
names true true true true = refl
names true true true false = refl
names true true false true = refl
names true true false false = refl
names true false true true = refl
names true false true false = refl
names true false false true = refl
names true false false false = refl
names false true true true = refl
names false true true false = refl
names false true false true = refl
names false true false false = refl
names false false true true = refl
names false false true false = refl
names false false false true = refl
names false false false false = refl

-- ---- the fields

field_valid : (name value : List ℕ) → list_all is_token_byte name ≡ true → 0 < length name → AreValues value
    → IsField (field name value)
field_valid name value is some values = record {
  name = (some, AllPass-from_list_all is_token_byte name is);
  raw = All-cons (λ b. is_value_byte b ≡ true) 32 value refl values;
}

one_field : (name value : List ℕ) → list_all is_token_byte name ≡ true → 0 < length name → AreValues value
    → All IsField (field name value ∷ [])
one_field name value is some values = All-cons IsField (field name value) [] (field_valid name value is some values)
    (All-nil IsField)

allow_valid : (s : Status) (m : Methods) → All IsField (allow_fields s m)
unfolding is_token_byte
allow_valid Status.MethodNotAllowed m =
    one_field (codes "Allow") (comma_joined (method_names m)) refl (lit< tt)
    (literal (comma_joined (method_names m)) (and_parts (list_all is_value_byte (comma_joined (method_names m)))
    (nat_le (length (comma_joined (method_names m))) 40) (names m.get m.list m.write m.delete)).0)
allow_valid Status.Success m = All-nil IsField
allow_valid Status.NoContent m = All-nil IsField
allow_valid Status.BadRequest m = All-nil IsField
allow_valid Status.Forbidden m = All-nil IsField
allow_valid Status.NotFound m = All-nil IsField
allow_valid Status.PayloadTooLarge m = All-nil IsField
allow_valid Status.HeaderFieldsTooLarge m = All-nil IsField
allow_valid Status.InternalServerError m = All-nil IsField
allow_valid Status.NotImplemented m = All-nil IsField

connection_valid : (close : Bool) → All IsField (connection_fields close)
unfolding is_token_byte
connection_valid true = one_field (codes "Connection") (codes "close") refl (lit< tt) (literal (codes "close") refl)
connection_valid false = All-nil IsField

visible_values : (t : List ℕ) → AreVisible t → AreValues t
visible_values t visible = All-tail (λ b. is_value_byte b ≡ true) 32 t (field_raw t visible)

typed_valid : (len : ℕ) → len < 2 ^ 64 → All IsField
    (field (codes "Content-Type") (codes "application/json") ∷ field (codes "Content-Length") (decimal len) ∷ [])
unfolding is_token_byte
typed_valid len small =
    All-cons IsField (field (codes "Content-Type") (codes "application/json"))
    (field (codes "Content-Length") (decimal len) ∷ [])
    (field_valid (codes "Content-Type") (codes "application/json") refl (lit< tt)
    (literal (codes "application/json") refl))
    (one_field (codes "Content-Length") (decimal len) refl (lit< tt)
    (visible_values (decimal len) (decimal_visible len small)))

body_valid : (s : Status) (len : ℕ) → len < 2 ^ 64 → All IsField (body_fields s len)
unfolding is_token_byte
body_valid Status.NoContent len small = All-nil IsField
body_valid Status.NotImplemented len small =
    one_field (codes "Content-Length") (codes "0") refl (lit< tt) (literal (codes "0") refl)
body_valid Status.Success len small = typed_valid len small
body_valid Status.BadRequest len small = typed_valid len small
body_valid Status.Forbidden len small = typed_valid len small
body_valid Status.NotFound len small = typed_valid len small
body_valid Status.MethodNotAllowed len small = typed_valid len small
body_valid Status.PayloadTooLarge len small = typed_valid len small
body_valid Status.HeaderFieldsTooLarge len small = typed_valid len small
body_valid Status.InternalServerError len small = typed_valid len small

fields_valid : (r : Response) (d : HttpDate) (close : Bool) → length r.text < 2 ^ 64
    → All IsField (reply_fields r (date_text d) close)
unfolding is_token_byte
fields_valid r d close small =
    let allow = allow_fields r.status r.methods in
    let cache : Field = field (codes "Cache-Control") (codes "no-store") in
    let connection = connection_fields close in
    let body = body_fields r.status (length r.text) in
    All-cons IsField (field (codes "Date") (date_text d)) (allow ++ (cache ∷ (connection ++ body)))
    (field_valid (codes "Date") (date_text d) refl (lit< tt) (date_values d))
    (All-append IsField allow (cache ∷ (connection ++ body)) (allow_valid r.status r.methods)
    (All-cons IsField cache (connection ++ body)
    (field_valid (codes "Cache-Control") (codes "no-store") refl (lit< tt) (literal (codes "no-store") refl))
    (All-append IsField connection body (connection_valid close) (body_valid r.status (length r.text) small))))

head_valid : (r : Response) (d : HttpDate) (close : Bool) → length r.text < 2 ^ 64
    → IsResponseHead (written_head r (date_text d) close)
head_valid r d close small =
    let p = printable r.status in
    record {
      minor = omega arith;
      digits = (refl, AllPass-from_list_all is_ascii_digit (code_digits (status_code r.status)) p.0);
      reason = literal (phrase_of r.status)
          (and_parts (list_all is_value_byte (phrase_of r.status)) (nat_le (length (phrase_of r.status)) 40) p.1).0;
      fields = fields_valid r d close small;
    }

-- ---- how much is written

allow_short : (s : Status) (m : Methods) → length (allow_line s m) ≤ 60
allow_short Status.MethodNotAllowed m =
    let joined_length = leb-true (length (comma_joined (method_names m))) 40
    (and_parts (list_all is_value_byte (comma_joined (method_names m)))
    (nat_le (length (comma_joined (method_names m))) 40) (names m.get m.list m.write m.delete)).1 in
    omega (arith, line (comma_joined (method_names m)), joined_length)
  where
    line : (t : List ℕ) → length (codes "Allow: " ++ t ++ (13 ∷ 10 ∷ [])) ≡ length t + 9
    line t = simp length-append (omega arith)
allow_short Status.Success m = omega arith
allow_short Status.NoContent m = omega arith
allow_short Status.BadRequest m = omega arith
allow_short Status.Forbidden m = omega arith
allow_short Status.NotFound m = omega arith
allow_short Status.PayloadTooLarge m = omega arith
allow_short Status.HeaderFieldsTooLarge m = omega arith
allow_short Status.InternalServerError m = omega arith
allow_short Status.NotImplemented m = omega arith

connection_short : (close : Bool) → length (connection_line close) ≤ 60
connection_short true = omega arith
connection_short false = omega arith

typed_short : (len : ℕ) → len ≤ longest_reply_body
    → length (codes "Content-Type: application/json" ++ (13 ∷ 10 ∷ []) ++ codes "Content-Length: " ++ decimal len
    ++ (13 ∷ 10 ∷ [])) ≤ 100
typed_short len small = omega (arith, line (decimal len), length-decimal-le 8 len (lit< tt) (omega arith) (omega arith))
  where
    line : (t : List ℕ) → length (codes "Content-Type: application/json" ++ (13 ∷ 10 ∷ []) ++ codes "Content-Length: "
        ++ t ++ (13 ∷ 10 ∷ [])) ≡ length t + 50
    line t = simp length-append (omega arith)

body_lines_short : (s : Status) (len : ℕ) → len ≤ longest_reply_body → length (body_lines s len) ≤ 100
body_lines_short Status.NoContent len small = omega arith
body_lines_short Status.NotImplemented len small = omega arith
body_lines_short Status.Success len small = typed_short len small
body_lines_short Status.BadRequest len small = typed_short len small
body_lines_short Status.Forbidden len small = typed_short len small
body_lines_short Status.NotFound len small = typed_short len small
body_lines_short Status.MethodNotAllowed len small = typed_short len small
body_lines_short Status.PayloadTooLarge len small = typed_short len small
body_lines_short Status.HeaderFieldsTooLarge len small = typed_short len small
body_lines_short Status.InternalServerError len small = typed_short len small

status_short : (d p : List ℕ) → length (codes "HTTP/1.1 " ++ d ++ codes " " ++ p ++ (13 ∷ 10 ∷ [])) ≡ length d
    + length p + 12
status_short d p = simp length-append (omega arith)

date_line_short : (t : List ℕ) → length (date_line t) ≡ length t + 8
date_line_short t = simp length-append (omega arith)

head_short : (r : Response) (d : HttpDate) (close : Bool) → length r.text ≤ longest_reply_body
    → length (reply_head r (date_text d) close) ≤ longest_reply_head
head_short r d close small =
    let p = printable r.status in
    let phrase = leb-true (length (phrase_of r.status)) 40
    (and_parts (list_all is_value_byte (phrase_of r.status)) (nat_le (length (phrase_of r.status)) 40) p.1).1 in
    omega (
      arith,
      lines_length (status_line r.status) (date_line (date_text d)) (allow_line r.status r.methods) cache_line
          (connection_line close) (body_lines r.status (length r.text)),
      status_short (code_digits (status_code r.status)) (phrase_of r.status),
      phrase,
      date_line_short (date_text d),
      date_short d,
      allow_short r.status r.methods,
      connection_short close,
      body_lines_short r.status (length r.text) small,
    )

allow_few : (s : Status) (m : Methods) → length (allow_fields s m) ≤ 1
allow_few Status.MethodNotAllowed m = omega arith
allow_few Status.Success m = omega arith
allow_few Status.NoContent m = omega arith
allow_few Status.BadRequest m = omega arith
allow_few Status.Forbidden m = omega arith
allow_few Status.NotFound m = omega arith
allow_few Status.PayloadTooLarge m = omega arith
allow_few Status.HeaderFieldsTooLarge m = omega arith
allow_few Status.InternalServerError m = omega arith
allow_few Status.NotImplemented m = omega arith

connection_few : (close : Bool) → length (connection_fields close) ≤ 1
connection_few true = omega arith
connection_few false = omega arith

body_few : (s : Status) (len : ℕ) → length (body_fields s len) ≤ 2
body_few Status.MethodNotAllowed len = omega arith
body_few Status.Success len = omega arith
body_few Status.NoContent len = omega arith
body_few Status.BadRequest len = omega arith
body_few Status.Forbidden len = omega arith
body_few Status.NotFound len = omega arith
body_few Status.PayloadTooLarge len = omega arith
body_few Status.HeaderFieldsTooLarge len = omega arith
body_few Status.InternalServerError len = omega arith
body_few Status.NotImplemented len = omega arith

few : (r : Response) (date : List ℕ) (close : Bool) → length (reply_fields r date close) ≤ most_fields
few r date close =
    let allow = allow_fields r.status r.methods in
    let cache : Field = field (codes "Cache-Control") (codes "no-store") in
    let connection = connection_fields close in
    let body = body_fields r.status (length r.text) in
    omega (
      arith,
      length-append allow (cache ∷ (connection ++ body)),
      length-append connection body,
      allow_few r.status r.methods,
      connection_few close,
      body_few r.status (length r.text),
    )

-- ---- the length that is told

-- a length in decimal digits is read again
length_told-decimal : (n : ℕ) → n ≤ longest_reply_body → length_told (decimal n) ≡ Some n
length_told-decimal n small =
    let is = decimal_is_IsNumeral n (omega arith) in
    let number : is_number (decimal n) ≡ true = and_from (nat_lt 0 (length (decimal n)))
    (list_all is_ascii_digit (decimal n)) (some (length (decimal n)) is.0.0) (digits_all (decimal n) is.0.1) in
    ap (λ (b : Bool). cond (b && nat_le (digits_value 10 (decimal n)) longest_reply_body)
    (Some (digits_value 10 (decimal n))) None) number
    ∙ ap (λ (k : ℕ). cond (nat_le k longest_reply_body) (Some k) None) is.1
    ∙ ap (λ (b : Bool). cond b (Some n) None) (le-leb n longest_reply_body small)
  where
    some : (m : ℕ) → 0 < m → nat_lt 0 m ≡ true
    some m less = grind (arith, nat_tests)

told_typed : (n : ℕ) → n ≤ longest_reply_body
    → first_length (values_in (codes "content-length") (field (codes "Content-Type") (codes "application/json") ∷ field
    (codes "Content-Length") (decimal n) ∷ [])) ≡ Some n
told_typed n small = ap length_told (trim_visible (decimal n) (decimal_visible n (omega arith)))
    ∙ length_told-decimal n small

body_told : (s : Status) (t : List ℕ) → length t ≤ longest_reply_body
    → first_length (values_in (codes "content-length") (body_fields s (length t))) ≡ Some (length (reply_body s t))
body_told Status.NoContent t small = refl
body_told Status.NotImplemented t small =
    ap length_told (trim_visible (codes "0") (AllPass-from_list_all is_visible (codes "0") refl))
body_told Status.Success t small = told_typed (length t) small
body_told Status.BadRequest t small = told_typed (length t) small
body_told Status.Forbidden t small = told_typed (length t) small
body_told Status.NotFound t small = told_typed (length t) small
body_told Status.MethodNotAllowed t small = told_typed (length t) small
body_told Status.PayloadTooLarge t small = told_typed (length t) small
body_told Status.HeaderFieldsTooLarge t small = told_typed (length t) small
body_told Status.InternalServerError t small = told_typed (length t) small

allow_other : (s : Status) (m : Methods) → values_in (codes "content-length") (allow_fields s m) ≡ []
allow_other Status.MethodNotAllowed m = refl
allow_other Status.Success m = refl
allow_other Status.NoContent m = refl
allow_other Status.BadRequest m = refl
allow_other Status.Forbidden m = refl
allow_other Status.NotFound m = refl
allow_other Status.PayloadTooLarge m = refl
allow_other Status.HeaderFieldsTooLarge m = refl
allow_other Status.InternalServerError m = refl
allow_other Status.NotImplemented m = refl

connection_other : (close : Bool) → values_in (codes "content-length") (connection_fields close) ≡ []
connection_other true = refl
connection_other false = refl

-- only the fields of the body tell a length
values_written : (r : Response) (date : List ℕ) (close : Bool)
    → values_in (codes "content-length") (reply_fields r date close)
    ≡ values_in (codes "content-length") (body_fields r.status (length r.text))
values_written r date close =
    let name = codes "content-length" in
    let allow = allow_fields r.status r.methods in
    let cache : List Field = field (codes "Cache-Control") (codes "no-store") ∷ [] in
    let connection = connection_fields close in
    let body = body_fields r.status (length r.text) in
    values_in-append name allow (cache ++ (connection ++ body))
    ∙ ap (λ (vs : List (List ℕ)). vs ++ values_in name (connection ++ body)) (allow_other r.status r.methods)
    ∙ values_in-append name connection body
    ∙ ap (λ (vs : List (List ℕ)). vs ++ values_in name body) (connection_other close)

-- ---- the laws

pub written : WrittenReplyIsRead
written r moment close bytes after is small =
    let date = date_text is.date in
    let head = written_head r date close in
    let body = reply_body r.status r.text in
    record {
      head = head;
      after = after;
      reads = (
        head_valid r is.date close (omega arith),
        ap (λ (l : List ℕ). l ++ after) is.bytes_are ∙ append_assoc (reply_head r date close) body after
            ∙ ap (λ (l : List ℕ). l ++ (body ++ after)) (sym (printed r date close)),
      );
      short = subst (λ (l : List ℕ). length l ≤ longest_reply_head) (sym (printed r date close))
          (head_short r is.date close small);
      few = few r date close;
      status = sym (printable r.status).2;
      told = ap first_length (values_written r date close) ∙ body_told r.status r.text small;
    }

pub unique : ReplyIsUnique
unique bytes a b x y =
    let same = response_unique bytes x.head y.head (a.body ++ x.after) (b.body ++ y.after) x.reads y.reads in
    let len : length a.body ≡ length b.body =
    same_Some _ _ (sym x.told ∙ ap (λ (h : ResponseHead). reply_length (map name_and_value h.fields)) same.0
    ∙ y.told) in
    let body : a.body ≡ b.body =
    sym (take-append_seam a.body x.after) ∙ ap (take (length a.body)) same.1
    ∙ ap (λ (n : ℕ). take n (b.body ++ y.after)) len ∙ take-append_seam b.body y.after in
    let code : a.status ≡ b.status = x.status ∙ ap head_code same.0 ∙ sym y.status in
    same_reply a b code body
  where
    same_reply : (a b : Reply) → a.status ≡ b.status → a.body ≡ b.body → a ≡ b
    same_reply a b e f = ap₂ (λ (s : ℕ) (t : List ℕ). record { status = s; body = t }) e f
