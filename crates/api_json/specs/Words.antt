-- The names that specs and proofs cite most, passed on from one place. Declares nothing.
-- types of the crates below, and their variants
pub use Rattle.broker_types.specs.declared.refusal.Field.{Field}
pub use Rattle.broker_types.specs.declared.refusal.Refusal.{Refusal}
-- definitions
pub use Rattle.api_json.specs.Canonical.{Ascends, IsAfter, IsCanonical, IsWholeNumber, ItemsAreCanonical}
pub use Rattle.api_json.specs.Canonical.{MembersAreCanonical, with_last}
pub use Rattle.api_json.specs.Entries.{entry_view}
pub use Rattle.api_json.specs.Json.{body_members, has_members, json_value, members_in, no_object, read_body, tree}
pub use Rattle.api_json.specs.Json.{without_floats}
pub use Rattle.api_json.specs.KeptBodies.{IsKept, IsKeptCustom, IsKeptMeta}
unfoldable pub use Rattle.api_json.specs.KeptBodies.{is_object}
pub use Rattle.api_json.specs.Kinds.{after_spaces, as_list, as_object_text, before_spaces, count_text, digits_from}
pub use Rattle.api_json.specs.Kinds.{each_count, each_item, each_text, is_part, without_spaces}
unfoldable pub use Rattle.api_json.specs.Kinds.{comma_parts}
pub use Rattle.api_json.specs.Members.{given, invalid, missing, of_kind, required}
unfoldable pub use Rattle.api_json.specs.Members.{optional, payload}
pub use Rattle.api_json.specs.Objects.{auth_object, credential_object, key_object, keys_object, lease_object}
pub use Rattle.api_json.specs.Objects.{mount_entry, mounts_object, policy_object, role_object, secret_object}
pub use Rattle.api_json.specs.Objects.{settings_object, token_object, valid_object, version_entry, version_object}
pub use Rattle.api_json.specs.Objects.{waiting_object, wrap_object}
pub use Rattle.api_json.specs.Parsed.{members_of}
pub use Rattle.api_json.specs.Printing.{quoted_pair, with_entry}
unfoldable pub use Rattle.api_json.specs.Printing.{quoted, with_item, with_member}
pub use Rattle.api_json.specs.Readers.{is_custom, is_custom_pair}
unfoldable pub use Rattle.api_json.specs.Readers.{token_creation}
pub use Rattle.api_json.specs.Reads.{IsRead}
pub use Rattle.api_json.specs.Reply.{lease_reply, plain_reply, reply_text, wrap_reply}
-- laws
pub use Rattle.api_json.specs.Laws.{behind_comma, BodiesAreKept, BodiesReadBack, CompactIsNoLonger, members_from_front}
pub use Rattle.api_json.specs.Laws.{members_of_list, PayloadsAreKept, printed, PrintsFromTheFront, PrintsJson}
pub use Rattle.api_json.specs.Laws.{PrintsReadBack}
