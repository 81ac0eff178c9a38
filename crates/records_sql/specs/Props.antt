-- What the states of a connection are made of (this project's): for facts that a struct keeps of its connection.
use Rattle.records.specs.Words.{Coded, →_prop}
use Rattle.std.specs.Coded.{codes}
use Rattle.sqlite_schema.specs.contracts.schema.Schema as schema
use Rattle.sqlite_schema.specs.declared.schema.Schema.{Schema}
use Rattle.sqlite_value.specs.contracts.value.Value as value
use Rattle.sqlite_value.specs.declared.value.Value.{Value}
use Rattle.sqlite.specs.State.{State}
use Rattle.records_sql.specs.Memory.{Memory}
use Rattle.records_sql.specs.MemoryProps.{Agrees-prop}
use Rattle.records_sql.specs.SqlTable.{AgreesAt, rows_of}

pub schema_coded : Coded Schema
schema_coded = schema.the_row.coded

pub value_coded : Coded Value
value_coded = value.the_row.coded

pub ruleset state_props = (codes, schema_coded, value_coded)

pub AgreesAt-prop : (memory : Memory) (s : State) → IsProp (AgreesAt memory s)
AgreesAt-prop memory s = →_prop (Agrees-prop memory (rows_of s.now.trees))
