-- The router of a table's rows, and which of its patterns a path finds (the search is that of the crate `matchit`).
use Rattle.std.specs.Prelude.{◌∷◌, ◌++◌, ◌&&◌, ◌||◌, if◌then◌else◌, ℕ, List, [], Bool, true, false, not, Option, Some}
use Rattle.records.specs.Words.{None, is_none, Result, Ok, Err, option_map, list_all, list_any, option_map_or, Text}
use Rattle.records.specs.Words.{same, Verb}
use Rattle.matchit.specs.Rows.{RowsOf, param_token, catch_all_token}
use Rattle.matchit.specs.Order.{placed}
use Rattle.matchit.specs.Route.{Scan, parse_route}
use Rattle.matchit.specs.Router.{RouteOf, route_from, nearest}
use Rattle.matchit.specs.Seek.{first}
use Rattle.matchit.specs.declared.error.InsertError.{InsertError}
use Rattle.broker_types.specs.declared.ask.Verb.TheVariants as verb
use Rattle.mounts.specs.Forms.{Ending, nothing, segment, segments, Form, form_of, has_parameter, are_bytes}
use Rattle.mounts.specs.RouteTable.{takes_parameter}
use Rattle.mounts.specs.RouteRow.{RouteRow}

-- ---- the router

-- patterns, each with its own text
abbrev pub Router : Type 0
Router = RowsOf (RouteOf Text)

-- a pattern that was read, put in its place
abbrev pub placed_as : Result Scan InsertError → Text → Router → Router
placed_as (Ok s) pattern router = placed (s.pattern, route_from s pattern) router
placed_as (Err e) pattern router = router

-- one more pattern
abbrev pub with_pattern : Text → Router → Router
with_pattern pattern router = placed_as (parse_route pattern) pattern router

-- whether the row before has the same pattern
abbrev pub is_again : Option Text → Text → Bool
is_again before pattern = option_map_or (λ b. same b pattern) before false

-- the pattern of a row put in, unless the row before has it
abbrev pub with_next : Option Text → Text → Router → Router
with_next before pattern router = if is_again before pattern then router else with_pattern pattern router

-- the patterns of rows put in, behind those of the rows before
unfoldable pub router_behind : Option Text → List RouteRow → Router → Router
router_behind before [] router = router
router_behind before (r ∷ rows) router =
    router_behind (Some r.pattern) rows (with_next before r.pattern router)

-- the router of rows
unfoldable pub router_of : List RouteRow → Router
router_of rows = router_behind None rows []

-- the pattern that a path within the mount finds
abbrev pub pattern_found : List RouteRow → Text → Option Text
pattern_found rows path = option_map (λ r. r.value) (first (router_of rows) path)

-- ---- tables in order

-- whether a pattern that was read conflicts with none of the router
abbrev pub is_free : Result Scan InsertError → Router → Bool
is_free (Ok s) router = is_none (nearest s.pattern router)
is_free (Err e) router = false

-- whether a pattern can be read and conflicts with none, or is that of the row before
abbrev pub can_follow : Option Text → Text → Router → Bool
can_follow before pattern router = is_again before pattern || is_free (parse_route pattern) router

-- whether the patterns of rows can join those of the rows before
unfoldable pub fits_behind : Option Text → List RouteRow → Router → Bool
fits_behind before [] router = true
fits_behind before (r ∷ rows) router =
    can_follow before r.pattern router && fits_behind (Some r.pattern) rows (with_next before r.pattern router)

-- whether all patterns of the rows can stand together
unfoldable pub fits : List RouteRow → Bool
fits rows = fits_behind None rows []

-- the tokens of a parameter, as `matchit` has them
abbrev pub ending_tokens : Ending → List ℕ
ending_tokens nothing = []
ending_tokens segment = param_token ∷ []
ending_tokens segments = catch_all_token ∷ []

-- the tokens of a form
abbrev pub tokens : Form → List ℕ
tokens f = f.literal ++ ending_tokens f.ending

-- whether a pattern was read as these tokens
abbrev pub is_read_as : List ℕ → Result Scan InsertError → Bool
is_read_as expected (Ok s) = same s.pattern expected
is_read_as expected (Err e) = false

-- whether `matchit` reads the pattern as its form says
abbrev pub reads_as_form : Text → Bool
reads_as_form pattern =
    are_bytes (form_of pattern).literal && is_read_as (tokens (form_of pattern)) (parse_route pattern)

-- whether two verbs are one
abbrev pub same_verb : Verb → Verb → Bool
same_verb verb.Get verb.Get = true
same_verb verb.List verb.List = true
same_verb verb.Write verb.Write = true
same_verb verb.Delete verb.Delete = true
same_verb _ _ = false

-- whether a row has the pattern and the verb
abbrev pub is_row : Text → Verb → RouteRow → Bool
is_row pattern v r = same r.pattern pattern && same_verb r.verb v

-- whether no two rows have one pattern and verb
abbrev pub differ : List RouteRow → Bool
differ [] = true
differ (r ∷ rows) = not (list_any (is_row r.pattern r.verb) rows) && differ rows

-- whether the row's pattern has the parameter that its operation takes
abbrev pub tells : RouteRow → Bool
tells r = not (takes_parameter r.operation) || has_parameter (form_of r.pattern)

-- Whether the patterns can stand together, each is read as its form says, each operation has its parameter, and no two
-- rows have one pattern and verb.
abbrev pub is_in_order : List RouteRow → Bool
is_in_order rows =
    fits rows && (list_all (λ r. reads_as_form r.pattern) rows && (list_all tells rows && differ rows))

-- whether a row of the table has the pattern
abbrev pub has_pattern : List RouteRow → Text → Bool
has_pattern rows pattern = list_any (λ r. same r.pattern pattern) rows
