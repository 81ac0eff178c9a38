-- What a request head says: the parts that the other definitions read (RFC 9112, sections 2 to 5).
use Rattle.std.specs.Prelude.{◌≡◌, ◌<◌, ◌≤◌, ℕ, Bool, List, [], map, filter, length, bytes_eq, IsUtf8}
use Rattle.broker_types.specs.Words.{to_ascii_lowercase}
use Rattle.httparse.specs.Grammar.{RequestHead, ReadsRequest, print_request}
use Rattle.httparse.specs.Spans.{name_and_value, IsRequestWithin, span_bytes}
use Rattle.httparse.specs.declared.spans.HeaderSpan.{HeaderSpan}
use Rattle.httparse.specs.declared.spans.RequestSpans.{RequestSpans}

-- a field: its name, and its value without the spaces and tabs around it (RFC 9112, section 5)
abbrev pub HeadField : Type 0
HeadField = List ℕ × List ℕ

-- The parts of a head: its method, its target, the minor version (1 for HTTP/1.1), its length in bytes with the empty
-- lines before and after it, and its fields (RFC 9112, sections 2.2, 2.3, 3 and 5).
pub record HeadParts : Type 0 where
  pub method : List ℕ
  pub target : List ℕ
  pub minor : ℕ
  pub size : ℕ
  pub fields : List HeadField

-- the parts of a head of `httparse`'s grammar
abbrev pub parts_of : RequestHead → HeadParts
parts_of h =
    record {
      method = h.method;
      target = h.target;
      minor = h.minor;
      size = length (print_request h);
      fields = map name_and_value h.fields;
    }

-- The text is exactly one head of `httparse`'s grammar (RFC 9112, sections 2 to 5), with at most 64 fields (this
-- project's limit), and these are its parts.
abbrev pub IsHead : List ℕ → HeadParts → Type 0
IsHead text p = (h : RequestHead) × ReadsRequest text h [] × (length h.fields ≤ 64) × (p ≡ parts_of h)

-- whether the texts are equal, ignoring the case of ASCII letters (RFC 9110, section 5.1)
abbrev pub same_in_any_case : List ℕ → List ℕ → Bool
same_in_any_case a b = bytes_eq (map to_ascii_lowercase a) (map to_ascii_lowercase b)

-- whether the field has the name, in any case (RFC 9110, section 5.1)
abbrev pub is_named : List ℕ → HeadField → Bool
is_named name f = same_in_any_case f.0 name

-- the values of the fields with this name, in their order (RFC 9110, section 5.3)
abbrev pub values_named : List ℕ → List HeadField → List (List ℕ)
values_named name fields = map (λ f. f.1) (filter (is_named name) fields)

-- what `Head` keeps true: the spans lie within the text, and the target is UTF-8 and not empty
pub record HeadInvariant (text : List ℕ) (headers : List HeaderSpan) (spans : RequestSpans) : Type 0 where
  pub within : IsRequestWithin text headers spans
  pub target : IsUtf8 (span_bytes text spans.path)
  pub nonempty : 0 < length (span_bytes text spans.path)
