-- The names that specs and proofs cite most, passed on from one place. Declares nothing.
-- types of the crates below, and their variants
pub use Rattle.records.specs.declared.row.Row.{Row}
-- definitions
pub use Rattle.leases.specs.Endings.{are_owned, AreReadable, Ending, EndsLeases, EndsWith, has_come, ids_under}
pub use Rattle.leases.specs.Endings.{is_named, is_owned, Leaves, unless_ended}
pub use Rattle.leases.specs.LeaseRows.{Held, IsLeaseAt, IsLeaseRow, IsReadableCredential, IsReadableLease}
pub use Rattle.leases.specs.LeaseRows.{KeepsOtherLeases, RepresentsLeases, with_issued}
pub use Rattle.leases.specs.Leases.{drop_owner, edited, find, issue, Renewed, renewed, renewed_end, revoke}
pub use Rattle.leases.specs.Leases.{revoke_under, Times, times_of, verify, with_renewed, without_expired}
pub use Rattle.leases.specs.Removed.{AreStillDue, AreThoseThatEnd, leases_among, RemovesEach, RemovesLease}
pub use Rattle.leases.specs.RoleRows.{with_lease}
pub use Rattle.leases.specs.Roles.{drop_roles, Issued, remove_role, role_name}
-- laws
pub use Rattle.leases.specs.EditLaws.{expired_leaves, owner_leaves, revoke_leaves, under_leaves}
pub use Rattle.leases.specs.IssuedLaws.{identifier_in, identifier_of_id, issue_evolves, issue_sound, lease_cases}
pub use Rattle.leases.specs.IssuedLaws.{new_lease_bounded, new_lease_sound}
pub use Rattle.leases.specs.LeftLaws.{all_readable, ends_added, expire_too, go_with_tokens, nothing_ends}
pub use Rattle.leases.specs.LeftLaws.{readable_after, same_rows}
pub use Rattle.leases.specs.SoundLaws.{lease_of-edited, shows_in_leases}
pub use Rattle.leases.specs.StaysSoundLaws.{drop_owner_evolves, drop_owner_sound, drop_roles_sound, expired_evolves}
pub use Rattle.leases.specs.StaysSoundLaws.{expired_sound, remove_role_sound, renew_evolves, renew_sound, renewed_bound}
pub use Rattle.leases.specs.StaysSoundLaws.{revoke_evolves, revoke_sound, revoke_under_evolves, revoke_under_sound}
pub use Rattle.leases.specs.StaysSoundLaws.{set_role_sound}
pub use Rattle.leases.specs.TellLaws.{are_leases, AreLeases, credential_at, credential_rows, holds, holds_credential}
pub use Rattle.leases.specs.TellLaws.{is_there, lease_at, lease_in, lease_rows, leases_tell, one_credential, one_owner}
