-- The names that specs and proofs cite most, passed on from one place. Declares nothing.
-- types of the crates below, and their variants
pub use Rattle.records.specs.declared.kind.Kind.{Kind}
pub use Rattle.records.specs.declared.row.Row.{Row}
-- definitions
pub use Rattle.cubbyhole.specs.Cubbyhole.{delete, drop_owner, edited, object_at, paths, with_cubbyhole, write}
pub use Rattle.cubbyhole.specs.Objects.{AreFiled, children_in, IsFiled, IsObjectAt, KeepsOtherOwners, object_key}
-- laws
pub use Rattle.cubbyhole.specs.CubbyholeLaws.{object_at-delete, object_at-drop_owner, object_at-write}
pub use Rattle.cubbyhole.specs.Laws.{HaveOneCubbyhole, if_owned, without_cubbyholes}
pub use Rattle.cubbyhole.specs.ObjectLaws.{key_parts, token_whole}
pub use Rattle.cubbyhole.specs.SoundLaws.{delete_evolves, delete_sound, drop_owner_evolves, drop_owner_sound}
pub use Rattle.cubbyhole.specs.SoundLaws.{write_evolves, write_sound}
