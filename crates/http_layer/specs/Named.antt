-- How often a head has a field (this project's definition).
use Rattle.std.specs.Prelude.{◌≡◌, ◌∷◌, ℕ, List, []}
use Rattle.http_layer.specs.declared.fields.Named.{Named}
use Rattle.http_layer.specs.declared.fields.Named.TheVariants.{Absent, Once, Several}

-- these are all the values of a field: none, one, or more than one
abbrev pub AreNamed : List (List ℕ) → Named → Type 0
AreNamed values Absent = values ≡ []
AreNamed values (Once value) = values ≡ value.now ∷ []
AreNamed values Several = (v w : List ℕ) × (vs : List (List ℕ)) × (values ≡ v ∷ w ∷ vs)
