-- What an answer of `cut` means (this project's definition).
use Rattle.std.specs.Prelude.{◌<◌, ◌≤◌, ℕ, ⊤}
use Rattle.http_layer.specs.declared.front.Cut.{Cut}
use Rattle.http_layer.specs.declared.front.Cut.TheVariants.{Need, Whole, Refused}
use Rattle.http_layer.specs.Front.{Front, need, refused_with, whole}

-- the front that the answer describes
abbrev pub front_of : Cut → Front
front_of Need = need
front_of (Refused status) = refused_with status
front_of (Whole len head body) = whole len head body

-- a whole request takes at least one byte, and at most so many
abbrev pub FitsIn : ℕ → Cut → Type 0
FitsIn room Need = ⊤
FitsIn room (Refused status) = ⊤
FitsIn room (Whole len head body) = (0 < len) × (len ≤ room)

-- the answer is that more bytes are needed
abbrev pub IsNeed : Cut → Type 0
IsNeed Need = ⊤
IsNeed (Refused status) = ⊥
IsNeed (Whole len head body) = ⊥
