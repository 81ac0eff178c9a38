-- What a pattern says: a text, and behind it nothing, one segment `{name}` or one or more segments `{*path}` (this
-- project's definition; the notation is that of the crate `matchit`).
use Rattle.std.specs.Prelude.{◌∷◌, ◌&&◌, ◌==◌, if◌then◌else◌, ℕ, [], length, drop, nat_eq, nat_lt, Bool, true, false}
use Rattle.records.specs.Words.{not, Option, Some, None, starts_with, list_all, Text, slash, split_once, lacks}

-- what stands behind the text of a pattern
pub data Ending : Type 0 where
  nothing segment segments : Ending

-- a pattern: the text before its parameter, and the parameter
pub record Form : Type 0 where
  pub literal : Text
  pub ending : Ending

-- whether there is no parameter
abbrev pub is_literal : Ending → Bool
is_literal nothing = true
is_literal segment = false
is_literal segments = false

-- the byte `{`
abbrev pub open_brace : ℕ
open_brace = 123

-- the byte `*`
abbrev pub star : ℕ
star = 42

-- a parameter, by what follows its brace
abbrev pub ending_of : Text → Ending
ending_of rest = if starts_with nat_eq rest (star ∷ []) then segments else segment

-- the form of a pattern, by the parts before and after its first brace
abbrev pub form_from : Text → Option (Text × Text) → Form
form_from pattern None = record { literal = pattern; ending = nothing }
form_from pattern (Some p) = record { literal = p.0; ending = ending_of p.1 }

-- the form of a pattern
abbrev pub form_of : Text → Form
form_of pattern = form_from pattern (split_once open_brace pattern)

-- whether a text is nothing, one segment, or one or more of them; no empty text is a segment
abbrev pub is_ending : Ending → Text → Bool
is_ending nothing [] = true
is_ending nothing (b ∷ rest) = false
is_ending segment [] = false
is_ending segment (b ∷ rest) = lacks slash (b ∷ rest)
is_ending segments [] = false
is_ending segments (b ∷ rest) = true

-- whether a path is the text and what stands behind it
abbrev pub has_form : Form → Text → Bool
has_form f path = starts_with nat_eq path f.literal && is_ending f.ending (drop (length f.literal) path)

-- what a path has in place of the pattern's parameter; empty if the path does not begin with the pattern's text
abbrev pub parameter : Text → Text → Text
parameter pattern path =
    let literal = (form_of pattern).literal in
    if starts_with nat_eq path literal then drop (length literal) path else []

-- whether a text is empty or ends in a slash
abbrev pub ends_segment : Text → Bool
ends_segment [] = true
ends_segment (x ∷ []) = x == slash
ends_segment (x ∷ y ∷ t) = ends_segment (y ∷ t)

-- whether the form has a parameter, which begins a segment
abbrev pub has_parameter : Form → Bool
has_parameter f = not (is_literal f.ending) && ends_segment f.literal

-- whether these are bytes
abbrev pub are_bytes : Text → Bool
are_bytes t = list_all (λ b. nat_lt b 256) t
