-- Objects built member by member (this project's).
use Rattle.std.specs.Prelude.{◌≡◌, false, List, [], ◌∷◌, Option, Some, None, map}
use Rattle.broker_types.specs.Words.{Text}
use Rattle.serde_json.specs.Data.{Data, Members, array, put, string}
use Rattle.serde_json.specs.View.{items_of}
use Rattle.serde_json.specs.Written.{members_have_float}

-- the members, and this value if there is one
abbrev pub with_value : Text → Option Data → Members → Members
with_value name None members = members
with_value name (Some d) members = put name d members

-- an array of texts
abbrev pub strings : List Text → Data
strings texts = array (items_of (map string texts))

-- members without floats stay so
abbrev pub KeepsWhole : Members → Members → Type 0
KeepsWhole old new = members_have_float old ≡ false → members_have_float new ≡ false
