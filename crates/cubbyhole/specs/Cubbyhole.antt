-- Cubbyholes: each belongs to one token, and goes with it (Vault's documentation, "Cubbyhole secrets engine").
use Rattle.records.specs.Words.{List, [], Option, option_and_then, option_map_or, Text, Map, get, empty, put, without}
use Rattle.records.specs.Words.{keys, change, Token, Broker, folder, children}

-- the object that t's cubbyhole has at the path
abbrev pub object_at : Broker → Text → Text → Option Text
object_at b t path = option_and_then (λ (x : Token). get x.cubbyhole path) (get b.tokens t)

-- the paths of t's cubbyhole
abbrev pub paths : Broker → Text → List Text
paths b t = option_map_or (λ (x : Token). keys x.cubbyhole) (get b.tokens t) []

-- the children of a folder of t's cubbyhole; the empty path is for the whole cubbyhole
abbrev pub list : Broker → Text → Text → List Text
list b t path = children (folder path) (paths b t)

-- a token with its cubbyhole edited
abbrev pub with_cubbyhole : (Map Text → Map Text) → Token → Token
with_cubbyhole edit x = record x { cubbyhole = edit x.cubbyhole }

-- the broker with t's cubbyhole edited
abbrev pub edited : Broker → Text → (Map Text → Map Text) → Broker
edited b t edit = record b { tokens = change b.tokens t (with_cubbyhole edit) }

-- the broker with the object at a path of t's cubbyhole
abbrev pub write : Broker → Text → Text → Text → Broker
write b t path object = edited b t (λ m. put m path object)

-- the broker without what t's cubbyhole has at the path
abbrev pub delete : Broker → Text → Text → Broker
delete b t path = edited b t (λ m. without m path)

-- the broker without t's objects
abbrev pub drop_owner : Broker → Text → Broker
drop_owner b t = edited b t (λ m. empty)
