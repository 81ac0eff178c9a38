-- The immediate children of a folder among paths (Vault's documentation, "KV secrets engine - version 2" and
-- "Cubbyhole secrets engine", list secrets).
use Rattle.std.specs.Prelude.{◌≡◌, ◌==◌, ◌++◌, ◌-◌, ◌+◌, ◌∷◌, if◌then◌else◌, List, [], Bool, false, Option, Some, None}
use Rattle.broker_types.specs.Words.{map, filter, drop, length, slice_get, is_some, nat_eq, ⊤, starts_with, list_any}
use Rattle.broker_types.specs.Words.{from_entries, get, Text, same, Map, keys}
use Rattle.records.specs.declared.kind.Kind.{Kind}
use Rattle.records.specs.Splits.{slash}
use Rattle.records.specs.Transaction.{Rows, rows_under}

-- how the paths in a folder begin; the empty path is for all paths
abbrev pub folder : Text → Text
folder [] = []
folder (c ∷ path) = (c ∷ path) ++ slash ∷ []

-- the first part of a path: a folder with its slash, or the whole path if it has no slash
abbrev pub child : Text → Text
child [] = []
child (c ∷ path) = c ∷ (if c == slash then [] else child path)

-- a text above all paths with one first part, and not above any other path that is above them
abbrev pub past : Text → Text
past [] = 0 ∷ []
past (c ∷ path) = if c == slash then (slash + 1) ∷ [] else c ∷ past path

-- what follows the prefix, for each text that begins with it
abbrev pub below : Text → List Text → List Text
below prefix texts = map (drop (length prefix)) (filter (λ q. starts_with nat_eq q prefix) texts)

-- a text as an entry of a set
abbrev pub member : Text → Text × ⊤
member t = (t, tt)

-- the texts as a set
abbrev pub set_of : List Text → Map ⊤
set_of texts = from_entries (map member texts)

-- the children of what begins with the prefix: a set, in the order of their bytes
abbrev pub children : Text → List Text → List Text
children prefix texts = keys (set_of (map child (below prefix texts)))

-- the keys of the rows of a kind that begin with the prefix, in the order of their bytes
abbrev pub keys_under : Rows → Kind → Text → List Text
keys_under rows kind prefix = map (λ e. e.0.1) (rows_under rows kind prefix)

-- whether the text is among the texts
abbrev pub has : List Text → Text → Bool
has texts t = list_any (same t) texts

-- the texts are what follows the prefix, for the rows of the kind whose keys begin with it
abbrev pub AreNames : Rows → Kind → Text → List Text → Type 0
AreNames rows kind prefix names = (rest : Text) → is_some (get rows (kind, prefix ++ rest)) ≡ has names rest

-- ---- the same from texts in order, where equal children stand together

-- whether the text is there
abbrev pub is_text : Text → Option Text → Bool
is_text t None = false
is_text t (Some x) = same x t

-- the text after the others, unless it is the last of them
abbrev pub push_once : List Text → Text → List Text
push_once texts t = if is_text t (slice_get texts (length texts - 1)) then texts else texts ++ t ∷ []

-- the texts after the others, each unless it is the last of those before it
abbrev pub push_each : List Text → List Text → List Text
push_each texts [] = texts
push_each texts (t ∷ more) = push_each (push_once texts t) more

-- the children of what begins with the prefix, from texts in the order of their bytes
abbrev pub children_in_order : Text → List Text → List Text
children_in_order prefix texts = push_each [] (map child (below prefix texts))
