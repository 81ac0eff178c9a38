-- Laws of objects that are printed and of objects that are kept, as statements (this project's; RFC 8259, section 4).
use Rattle.std.specs.Prelude.{◌≡◌, ◌≤◌, ◌<◌, ◌∷◌, ◌++◌, ℕ, List, [], length, map, Some}
use Rattle.serde_json.specs.Data.{Data, object, Members, no_members, member, depth}
use Rattle.serde_json.specs.Read.{read, max_depth}
use Rattle.serde_json.specs.Written.{compact_text}
use Rattle.broker_types.specs.Words.{longest_body, Text}
use Rattle.api_json.specs.Canonical.{IsCanonical}
use Rattle.api_json.specs.Json.{read_body}
use Rattle.api_json.specs.KeptBodies.{IsKept}
use Rattle.api_json.specs.Members.{payload}
use Rattle.api_json.specs.Printing.{object_of, quoted}

-- ---- the same texts, written from the front

-- the text after a comma, if there is any
abbrev pub behind_comma : List ℕ → List ℕ
behind_comma [] = []
behind_comma (x ∷ xs) = 44 ∷ x ∷ xs

-- a name, a colon and a value, and a comma between two members
abbrev pub members_from_front : List (Text × Text) → List ℕ
members_from_front [] = []
members_from_front (m ∷ ms) = quoted m.0 ++ 58 ∷ m.1 ++ behind_comma (members_from_front ms)

-- an object is its members from the front, in braces
abbrev pub PrintsFromTheFront : Type 0
PrintsFromTheFront = (ms : List (Text × Text)) → object_of ms ≡ 123 ∷ members_from_front ms ++ 125 ∷ []

-- the members of an object, from a list
abbrev pub members_of_list : List (Text × Data) → Members
members_of_list [] = no_members
members_of_list (e ∷ es) = member e.0 e.1 (members_of_list es)

-- a member whose value is compact JSON
abbrev pub printed : Text × Data → Text × Text
printed e = (e.0, compact_text e.1)

-- members whose values are compact JSON make the compact text of an object
abbrev pub PrintsJson : Type 0
PrintsJson = (es : List (Text × Data)) → object_of (map printed es) ≡ compact_text (object (members_of_list es))

-- such an object is read again as what it was, if its names ascend by bytes and its numbers are whole
abbrev pub PrintsReadBack : Type 0
PrintsReadBack =
    (es : List (Text × Data)) → IsCanonical (object (members_of_list es))
    → depth (object (members_of_list es)) ≤ max_depth
    → read (object_of (map printed es)) ≡ Some (object (members_of_list es))

-- ---- objects that are kept

-- what a body is read as is read again from its compact text
abbrev pub BodiesReadBack : Type 0
BodiesReadBack =
    (body : List ℕ) (ms : Members) → read_body body ≡ Some ms
    → read (compact_text (object ms)) ≡ Some (object ms)

-- The compact text of the object that a body is read as is no longer than the body: white space goes, and so do members
-- that a later one of the same name replaces, and no token grows (RFC 8259, sections 2 and 7). A body without bytes is
-- an empty object, whose text has two.
abbrev pub CompactIsNoLonger : Type 0
CompactIsNoLonger =
    (body : List ℕ) (ms : Members) → 0 < length body → read_body body ≡ Some ms
    → length (compact_text (object ms)) ≤ length body

-- its compact text can be kept
abbrev pub BodiesAreKept : Type 0
BodiesAreKept =
    (body : List ℕ) (ms : Members) → length body ≤ longest_body → read_body body ≡ Some ms
    → IsKept (compact_text (object ms))

-- and so can that of the object that it brings as a secret
abbrev pub PayloadsAreKept : Type 0
PayloadsAreKept =
    (body : List ℕ) (ms : Members) (t : Text) → length body ≤ longest_body → read_body body ≡ Some ms
    → payload ms ≡ Some t → IsKept t
