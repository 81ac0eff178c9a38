-- The parts of a command of the client (the limits are this project's).
use Rattle.std.specs.Prelude.{◌&&◌, ℕ, nat_le, nat_lt, Bool, length}
use Rattle.broker_types.specs.Words.{list_all, Text}

-- the longest argument that is sent in a field or as a token, in bytes
abbrev pub longest_argument : ℕ
longest_argument = 1024

-- a visible ASCII character (RFC 9110, section 5.5)
abbrev pub is_visible : ℕ → Bool
is_visible b = nat_le 33 b && nat_le b 126

-- what the client sends as the value of a field: 1 to 1,024 visible ASCII characters
abbrev pub is_field_text : Text → Bool
is_field_text t = nat_lt 0 (length t) && nat_le (length t) longest_argument && list_all is_visible t

-- a text of at most 1,024 bytes
abbrev pub is_short_text : Text → Bool
is_short_text t = nat_le (length t) longest_argument
