-- What the specs cite of std and of the crates below, passed on from one place. Declares nothing.
pub use Rattle.serde_json.specs.Data.{Members, object}
pub use Rattle.serde_json.specs.Written.{compact_text}
pub use Rattle.broker_model.specs.Words.{[], are_bytes, Ask, asked, asks_sudo, at_moment, auth_object, body_members}
pub use Rattle.broker_model.specs.Words.{Bool, Broker, children, codes, Command, command_of, Contains}
pub use Rattle.broker_model.specs.Words.{credential_object, Engine, entries, Evolves, false, folder, from_entries, get}
pub use Rattle.broker_model.specs.Words.{grants, has, is_name, is_none, is_open, is_policy, is_under, IsDistinct, IsNew}
pub use Rattle.broker_model.specs.Words.{IsRefused, issued, Key, keys, keys_object, kv, lacks, Lease, lease_of}
pub use Rattle.broker_model.specs.Words.{lease_reply, LeaseRenewal, List, Map, max, meant_by, min, Mount, MountCreation}
pub use Rattle.broker_model.specs.Words.{MountSettings, Names, names_of, nat_eq, no_content, None, not, object_at, Ok}
pub use Rattle.broker_model.specs.Words.{ok, on_cubbyhole, on_issued, on_lease, on_mount, on_policy, on_secret}
pub use Rattle.broker_model.specs.Words.{on_token, on_wrapping, Option, option_map_or, Outcome, permission_denied}
pub use Rattle.broker_model.specs.Words.{Place, plain_reply, read_as, read_none, Reason, Refusal, refused, reply_text}
pub use Rattle.broker_model.specs.Words.{Response, Result, Role, RoleSettings, same, secret_name, SecretWrite, slash}
pub use Rattle.broker_model.specs.Words.{slice_index_or, Some, spend, starts_with, Status, status_code, step, Sudo}
pub use Rattle.broker_model.specs.Words.{Text, Token, token_meant, token_text, TokenCreation, TokenRenewal, true}
pub use Rattle.broker_model.specs.Words.{unwrap_or, Verb, Version, VersionObject, VersionsStay, Waiting, WasBefore}
pub use Rattle.broker_model.specs.Words.{without, Words, ℕ, ⊤, ◌>>=◌}
pub use Rattle.broker_model.specs.declared.commands.CubbyholeCommand.{CubbyholeCommand}
pub use Rattle.broker_model.specs.declared.commands.IssuedCommand.{IssuedCommand}
pub use Rattle.broker_model.specs.declared.commands.LeaseCommand.{LeaseCommand}
pub use Rattle.broker_model.specs.declared.commands.MountCommand.{MountCommand}
pub use Rattle.broker_model.specs.declared.commands.PolicyCommand.{PolicyCommand}
pub use Rattle.broker_model.specs.declared.commands.SecretCommand.{SecretCommand}
pub use Rattle.broker_model.specs.declared.commands.TokenCommand.{TokenCommand}
pub use Rattle.broker_model.specs.declared.commands.WrappingCommand.{WrappingCommand}
pub use Rattle.broker_model.specs.declared.making.Making.{Making}
pub use Rattle.broker_model.specs.declared.making.Making.TheVariants.{OfCaller, WithoutParent}
pub use Rattle.broker_types.specs.declared.refusal.Denial.{Denial}
pub use Rattle.mounts.specs.declared.operation.SecretOperation.{SecretOperation}
