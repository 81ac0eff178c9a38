-- A row of the table of routes: which operation a verb means at the paths of a pattern (this project's definition).
use Rattle.records.specs.Words.{List, map, Text, Verb}
use Rattle.mounts.specs.declared.operation.Operation.{Operation}
use Rattle.mounts.specs.declared.table.RouteRow as code

-- a row
pub record RouteRow : Type 0 where
  pub verb : Verb
  -- within the mount; `{name}` is one segment, `{*path}` one or more
  pub pattern : Text
  pub operation : Operation

-- the row of a verb, a pattern and an operation
abbrev pub on : Verb → Text → Operation → RouteRow
on verb pattern operation = record { verb = verb; pattern = pattern; operation = operation }

-- a row, as the code has it
abbrev pub shown : code.RouteRow → RouteRow
shown r = on r.0 r.1.now r.2

-- rows, as the code has them
abbrev pub rows_in : List code.RouteRow → List RouteRow
rows_in rows = map shown rows
