-- Which requests close their connection after the reply (RFC 9112, sections 9.3 and 9.6).
use Rattle.std.specs.Prelude.{◌==◌, ◌&&◌, ◌||◌, ℕ, Bool, List, codes}
use Rattle.broker_types.specs.Words.{list_any, slice_split}
use Rattle.httparse.specs.Grammar.{trim_ows}
use Rattle.http_layer.specs.HeadParts.{HeadParts, HeadField, same_in_any_case, is_named}

-- whether the element is `close`, in any case, with or without spaces and tabs around it (RFC 9110, section 7.6.1)
abbrev pub is_close : List ℕ → Bool
is_close element = same_in_any_case (trim_ows element) (codes "close")

-- whether one element of the list is `close`; commas separate the elements (RFC 9110, section 5.6.1)
abbrev pub lists_close : List ℕ → Bool
lists_close value = list_any is_close (slice_split (λ b. b == 44) value)

-- whether the field is a Connection field that lists `close` (RFC 9112, section 9.6)
abbrev pub is_closing : HeadField → Bool
is_closing f = is_named (codes "connection") f && lists_close f.1

-- Whether the request closes its connection: it is HTTP/1.0, or a Connection field lists `close` (RFC 9112,
-- section 9.3).
abbrev pub closes : HeadParts → Bool
closes p = (p.minor == 0) || list_any is_closing p.fields
