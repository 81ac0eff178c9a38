-- Paths as they are sent in a target (RFC 3986, sections 2.1, 2.3 and 3.3).
use Rattle.std.specs.Prelude.{◌==◌, ◌||◌, ◌∷◌, if◌then◌else◌, ℕ, List, [], Bool}
use Rattle.broker_types.specs.Words.{flat_map, is_ascii_alphanumeric}
use Rattle.percent_encoding.specs.Percent.{percent_encode_byte}

-- a letter, a digit, `-`, `.`, `_` or `~` (RFC 3986, section 2.3), or the `/` between segments
abbrev pub is_plain : ℕ → Bool
is_plain b = is_ascii_alphanumeric b || (b == 45) || (b == 46) || (b == 95) || (b == 126) || (b == 47)

-- any other byte is written as `%` and two upper-case hexadecimal digits (RFC 3986, section 2.1)
abbrev pub escaped_byte : ℕ → List ℕ
escaped_byte b = if is_plain b then b ∷ [] else percent_encode_byte b

unfoldable pub escaped : List ℕ → List ℕ
escaped bytes = flat_map escaped_byte bytes
