-- Which operation a verb and a path mean (Vault's documentation, "HTTP API"; RFC 9110, section 15.5.6, for a method
-- that is not allowed).
use Rattle.std.specs.Prelude.{◌&&◌, List, [], Bool, Option, option_map, Result, Ok, unwrap_or}
use Rattle.std.specs.List.{find}
use Rattle.records.specs.Words.{list_any, option_map_or, Text, Map, get, Mount, ◌>>=◌, some_or, Verb, Methods, Refusal}
use Rattle.records.specs.Words.{slash, split_once}
use Rattle.broker_types.specs.declared.ask.Verb.TheVariants as verb
use Rattle.broker_types.specs.declared.refusal.Refusal.TheVariants as refusal
use Rattle.mounts.specs.declared.operation.Operation.{Operation}
use Rattle.mounts.specs.Forms.{parameter, form_of, has_form}
use Rattle.mounts.specs.Patterns.{pattern_found, is_row}
use Rattle.mounts.specs.RouteRow.{RouteRow}
use Rattle.mounts.specs.RouteTable.{route_rows, facts}
use Rattle.mounts.specs.Types.{fixed_type, type_at}

-- where a request goes: its operation, the name of its mount, and what stands for the pattern's parameter
pub record Route : Type 0 where
  pub operation : Operation
  pub mount : Text
  -- a name or a path; empty if the pattern has no parameter
  pub parameter : Text

-- the first segment of a path, which names its mount, and what follows its slash
abbrev pub cut : Text → Text × Text
cut path = unwrap_or (split_once slash path) (path, [])

-- whether the pattern has the verb
abbrev pub has_row : List RouteRow → Text → Verb → Bool
has_row rows pattern v = list_any (is_row pattern v) rows

-- the methods of a pattern
abbrev pub methods_of : List RouteRow → Text → Methods
methods_of rows pattern =
    record {
      get = has_row rows pattern verb.Get;
      list = has_row rows pattern verb.List;
      write = has_row rows pattern verb.Write;
      delete = has_row rows pattern verb.Delete;
    }

-- the operation of the row with the pattern and the verb
abbrev pub operation_for : List RouteRow → Text → Verb → Option Operation
operation_for rows pattern v = option_map (λ r. r.operation) (find (is_row pattern v) rows)

-- the route of a pattern; 405 if no row of it has the verb
abbrev pub route_by : List RouteRow → Verb → Text → Text → Text → Result Route Refusal
route_by rows v mount path pattern = do
  operation ← some_or (refusal.MethodNotAllowed (methods_of rows pattern)) (operation_for rows pattern v)
  Ok (record { operation = operation; mount = mount; parameter = parameter pattern path })

-- the route of a path within a mount, by the rows of its type
abbrev pub within : List RouteRow → Verb → Text → Text → Result Route Refusal
within rows v mount path = do
  pattern ← some_or refusal.NotFound (pattern_found rows path)
  route_by rows v mount path pattern

-- the route of a path, by the mount that its first segment names
unfoldable pub route_at : Option Mount → Verb → Text → Result Route Refusal
route_at o v path = do
  type ← some_or refusal.NotFound (type_at o (cut path).0)
  within (route_rows type) v (cut path).0 (cut path).1

-- the route of a path
abbrev pub route_of : Map Mount → Verb → Text → Result Route Refusal
route_of mounts v path = route_at (get mounts (cut path).0) v path

-- ---- mounts that are always there

-- the rows of such a mount; another name has none here
abbrev pub fixed_rows : Text → List RouteRow
fixed_rows name = option_map_or route_rows (fixed_type name) []

-- the operation of a verb at a path that is a pattern itself
unfoldable pub operation_at : Verb → Text → Option Operation
operation_at v path = operation_for (fixed_rows (cut path).0) (cut path).1 v

-- whether a path within the mount has the form of a row's pattern, whose operation asks for `sudo`
abbrev pub row_asks_sudo : Text → RouteRow → Bool
row_asks_sudo path r = (facts r.operation).sudo && has_form (form_of r.pattern) path

-- Whether a path asks for the capability `sudo`, whatever the verb: it has the form of a pattern at which an operation
-- does.
unfoldable pub asks_sudo : Text → Bool
asks_sudo path = list_any (row_asks_sudo (cut path).1) (fixed_rows (cut path).0)
