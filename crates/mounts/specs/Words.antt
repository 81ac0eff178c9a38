-- The names that specs and proofs cite most, passed on from one place. Declares nothing.
-- types of the crates below, and their variants
pub use Rattle.records.specs.declared.row.Row.{Row}
-- types of this crate, for its proofs alone
pub use Rattle.mounts.specs.declared.mount_type.MountType.{MountType}
-- definitions
pub use Rattle.mounts.specs.Forms.{are_bytes, Ending, ends_segment, Form, form_from, form_of, has_form, has_parameter}
pub use Rattle.mounts.specs.Forms.{is_ending, is_literal, nothing, open_brace, parameter, segment, segments, star}
pub use Rattle.mounts.specs.MountRows.{AreMounts, at_mount, in_places, IsKnownAt, IsMountAt, IsMountRow, placed}
pub use Rattle.mounts.specs.Mounts.{fixed_names, listed, new_mount, plain_mount, printed, typed, with_type}
pub use Rattle.mounts.specs.Patterns.{can_follow, differ, ending_tokens, has_pattern, is_again, is_free, is_in_order}
pub use Rattle.mounts.specs.Patterns.{is_read_as, is_row, pattern_found, placed_as, reads_as_form, Router, same_verb}
pub use Rattle.mounts.specs.Patterns.{tells, tokens, with_next}
unfoldable pub use Rattle.mounts.specs.Patterns.{fits, fits_behind, router_behind, router_of}
pub use Rattle.mounts.specs.Route.{cut, fixed_rows, has_row, methods_of, operation_at, operation_for, Route, route_by}
pub use Rattle.mounts.specs.Route.{route_of, row_asks_sudo, within}
unfoldable pub use Rattle.mounts.specs.Route.{asks_sudo, route_at}
pub use Rattle.mounts.specs.RouteRow.{RouteRow, rows_in, shown}
pub use Rattle.mounts.specs.RouteTable.{facts, route_rows, takes_parameter}
pub use Rattle.mounts.specs.Types.{type_at, type_of}
-- laws
pub use Rattle.mounts.specs.CutLaws.{cut_none, cut_some}
pub use Rattle.mounts.specs.FoundLaws.{bytes_of_rest}
pub use Rattle.mounts.specs.Laws.{IsForm}
pub use Rattle.mounts.specs.SoundLaws.{disabled_sound, enabled_sound, mounts_evolve, new_mount_is}
pub use Rattle.mounts.specs.TellLaws.{mounts_told, told_mounts}
