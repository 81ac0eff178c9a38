-- The names that specs and proofs cite most, passed on from one place. Declares nothing.
-- types of the crates below, and their variants
pub use Rattle.records.specs.declared.kind.Kind.{Kind}
pub use Rattle.records.specs.declared.row.Row.{Row}
-- definitions
pub use Rattle.wrapping.specs.AccessorRows.{IsDamagedName, NamesAt}
pub use Rattle.wrapping.specs.DueResponses.{AreReadable, AreReadableDue, AreStillDue, is_due_at, is_waiting}
pub use Rattle.wrapping.specs.DueResponses.{IsDamagedDue, IsWaitingRow, Sweeps, without_each, without_responses}
pub use Rattle.wrapping.specs.DueResponses.{without_told}
pub use Rattle.wrapping.specs.WaitingRows.{IsDamagedWaiting, IsWaitingAt, RepresentsWaiting, TakesOut, with_response}
pub use Rattle.wrapping.specs.WaitingRows.{without_response}
pub use Rattle.wrapping.specs.Wrapping.{AddsNone, find_accessor, has_accessor, moved, still_waits, with_waiting}
pub use Rattle.wrapping.specs.Wrapping.{without_ended}
-- laws
pub use Rattle.wrapping.specs.ResponseLaws.{drop_accessor_adds_none, drop_adds_none, drop_unknown, ends_add_none}
pub use Rattle.wrapping.specs.ResponseLaws.{moved_is_gone, moved_is_taken_out, moved_waits, others_stay, others_wait}
pub use Rattle.wrapping.specs.ResponseLaws.{rewrap_adds_none, rewrap_is, rewrap_marks_none, store_adds_one}
pub use Rattle.wrapping.specs.SoundLaws.{drop_accessor_evolves, drop_accessor_sound, ends_evolve, ends_sound}
pub use Rattle.wrapping.specs.SoundLaws.{rewrap_evolves, rewrap_sound, store_evolves, store_sound}
