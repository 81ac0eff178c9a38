-- The names that specs and proofs cite most, passed on from one place. Declares nothing.
-- types of the crates below, and their variants
pub use Rattle.records.specs.declared.kind.Kind.{Kind}
pub use Rattle.records.specs.declared.row.Row.{Row}
-- definitions
pub use Rattle.records_sql.specs.Adopted.{HasRows, IsAdopted, IsKeptIn, IsSettled}
pub use Rattle.records_sql.specs.Bounds.{IsAbove, IsLater}
pub use Rattle.records_sql.specs.Causes.{after, cause_of, cause_of_code, KeepsCause}
pub use Rattle.records_sql.specs.KeptRecords.{kept_records}
pub use Rattle.records_sql.specs.Made.{IsNewTable}
pub use Rattle.records_sql.specs.Memory.{Agrees, AreBounded, AreFound, AreOthers, Entry, IsCalmUntil, IsDueFrom}
pub use Rattle.records_sql.specs.Memory.{IsFound, IsSmall, Memory}
pub use Rattle.records_sql.specs.Numbered.{AreNumbered, IsListed, IsOver, number_of}
pub use Rattle.records_sql.specs.SqlTable.{AgreesAt, are_apart, Asked, broker_schema, Changed, due_in, due_index}
pub use Rattle.records_sql.specs.SqlTable.{due_value, entries_of, entry_in, HasEnded, int_in, is_apart, IsActive}
pub use Rattle.records_sql.specs.SqlTable.{IsSoundAt, IsStore, IsUsable, Kept, kept, key_index, mismatches, no_schema}
pub use Rattle.records_sql.specs.SqlTable.{owner_index, owner_schema, Read, read_row, rows_of, seen_of, size_of, Stays}
pub use Rattle.records_sql.specs.SqlTable.{stored, table, table_schema, whole_entry}
pub use Rattle.records_sql.specs.Texts.{begin_text, commit_text, create_due_text, create_owner_text, create_text}
pub use Rattle.records_sql.specs.Texts.{due_params, due_text, from_params, from_text, get_text, key_params}
pub use Rattle.records_sql.specs.Texts.{numbers_text, owner_text, put_params, put_text, remove_text, rollback_text}
pub use Rattle.records_sql.specs.Texts.{under_params, under_text, upto_params, upto_text}
