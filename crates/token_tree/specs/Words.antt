-- The names that specs and proofs cite most, passed on from one place. Declares nothing.
-- types of the crates below, and their variants
pub use Rattle.records.specs.declared.kind.Kind.{Kind}
pub use Rattle.records.specs.declared.row.Row.{Row}
-- definitions
pub use Rattle.token_tree.specs.Accessors.{is_of_token, IsAccessorRow, Named, named_row, names_token, token_of}
pub use Rattle.token_tree.specs.Accessors.{with_accessors}
pub use Rattle.token_tree.specs.Ended.{AllStay, goes, has_come, has_key, is_named, IsClosed, IsDescent, of_owner, Start}
pub use Rattle.token_tree.specs.Ended.{Starts}
pub use Rattle.token_tree.specs.Endings.{AreTokenRows, EndsAlone, EndsDescent, IsDamagedDescent, orphan_row}
pub use Rattle.token_tree.specs.Endings.{without_children_of, without_tokens}
pub use Rattle.token_tree.specs.Orphaned.{is_child, orphaned, without_parent}
pub use Rattle.token_tree.specs.Removed.{IsTokenRow, without_each, without_token}
pub use Rattle.token_tree.specs.Starts.{starts}
pub use Rattle.token_tree.specs.TokenRows.{IsDamagedToken, spent_entry}
pub use Rattle.token_tree.specs.Tokens.{accessors_of, AreEnded, by_accessor, find_accessor, has_accessor, has_ended}
pub use Rattle.token_tree.specs.Tokens.{RepresentsTokens, with_end, with_token, without_expired}
pub use Rattle.token_tree.specs.Walks.{AreDescending, AreStarted, AreTokens, children, Descends, EndsListed}
pub use Rattle.token_tree.specs.Walks.{HasDamagedDescent, texts}
-- laws
pub use Rattle.token_tree.specs.AccessorLaws.{names_of_row, names_token_is}
pub use Rattle.token_tree.specs.EndedLaws.{ended_by_now, ended_by_revocation, ended_by_revocation_alone}
pub use Rattle.token_tree.specs.SoundLaws.{create_evolves, create_sound, renew_evolves, renew_sound}
pub use Rattle.token_tree.specs.SpentLaws.{left_entry}
