-- What the row of a token or of a waiting response tells of its accessor: the text that its body begins with (this
-- project's row format).
use Rattle.std.specs.Prelude.{◌∷◌, ℕ, List, [], Bool, false, take}
use Rattle.broker_types.specs.Words.{w32, from_be_bytes, list_any, option_map_or, Text, same}
use Rattle.records.specs.declared.kind.Kind.{Kind}
use Rattle.records.specs.declared.row.Row.{Row}
use Rattle.records.specs.Table.{Table}

-- the text that a body begins with, after its format
abbrev pub first_text : List ℕ → Text
first_text (f ∷ a ∷ b ∷ c ∷ d ∷ rest) = take (from_be_bytes w32 (a ∷ b ∷ c ∷ d ∷ [])) rest
first_text _ = []

-- the accessor that the row of a token or of a response tells
abbrev pub accessor_in : Row → Text
accessor_in row = first_text row.body

-- whether the row that one of the texts has among those of the kind tells the accessor
abbrev pub is_told : Kind → List Text → Table → Text → Bool
is_told k texts rows accessor =
    list_any (λ t. option_map_or (λ row. same accessor (accessor_in row)) (rows k t) false) texts
