-- Texts, as the lists of their bytes (this project's definition).
use Rattle.std.specs.Prelude.{ℕ, List, Bool, bytes_eq}
use Rattle.std.specs.declared.cmp.Ordering.{Ordering}
use Rattle.std.specs.Ordering.{nat_cmp}
use Rattle.std.specs.Cmp.Lexicographic.{slice_cmp}

-- the bytes of a text
abbrev pub Text : Type 0
Text = List ℕ

-- the order of texts by bytes
abbrev pub text_cmp : Text → Text → Ordering
text_cmp = slice_cmp nat_cmp

-- whether two texts are one
unfoldable pub same : Text → Text → Bool
same a b = bytes_eq a b
