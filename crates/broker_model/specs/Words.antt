-- The names that specs and proofs cite most, passed on from one place. Declares nothing.
-- of std
pub use Rattle.std.proofs.Common.{below_more, IsOk, lt_of_le_of_lt, MatchBool}
pub use Rattle.std.proofs.KnownBytes.{Appends-nil, Appends-trans, Consumes-nil}
pub use Rattle.std.proofs.Math.ListN.{get_or-append}
pub use Rattle.std.proofs.Math.Nat.{eq-or-lt_of_le, le-max_right, min-eq_left}
pub use Rattle.std.proofs.Math.Seq.{take-length}
pub use Rattle.std.proofs.lemmas.Bool.{cases_eq, cond-false, cond-true, eq-eqb, lt-leb}
pub use Rattle.std.proofs.lemmas.List.{get_or-set_other, get_or-set_same}
pub use Rattle.std.proofs.lemmas.List.Elements.{All-more, Contains-push}
pub use Rattle.std.proofs.lemmas.List.Folds.{concat-append}
pub use Rattle.std.proofs.lemmas.Map.{update_here}
pub use Rattle.std.proofs.lemmas.Map.Keys.{ge_from_not_lt, le_from_not_gt}
pub use Rattle.std.proofs.lemmas.Map.Views.{tells_apart}
pub use Rattle.std.proofs.lemmas.Option.{cond_some, get_or_from_slice_get, MatchOption-at_none, MatchOption-at_some}
pub use Rattle.std.proofs.lemmas.Result.{IfErr-at_err}
pub use Rattle.std.specs.BTreeMap.{BTreeMap, is_at}
pub use Rattle.std.specs.BTreeSet.{BTreeSet, contains, insert_key}
pub use Rattle.std.specs.Bool.{OnTrue}
pub use Rattle.std.specs.Io.KnownBytes.{IsAtEnd, Keeps}
pub use Rattle.std.specs.List.{All, find}
pub use Rattle.std.specs.Map.{update}
pub use Rattle.std.specs.Prelude.{max, OnErr, slice_index_or}
pub use Rattle.std.specs.Result.{result_err}
pub use Rattle.std.specs.declared.alloc.Global.{Global}
-- of the crates below
pub use Rattle.api_json.specs.Json.{body_members, members_in, tree, without_floats}
pub use Rattle.api_json.specs.KeptBodies.{IsKept, IsKeptCreation, IsKeptCustom, IsKeptSettings}
unfoldable pub use Rattle.api_json.specs.KeptBodies.{is_object}
unfoldable pub use Rattle.api_json.specs.Members.{optional}
unfoldable pub use Rattle.api_json.specs.Names.{name_text}
pub use Rattle.api_json.specs.Objects.{auth_object, credential_object, key_object, keys_object, lease_object}
pub use Rattle.api_json.specs.Objects.{mounts_object, policy_object, role_object, secret_object, settings_object}
pub use Rattle.api_json.specs.Objects.{token_object, valid_object, version_object, waiting_object}
unfoldable pub use Rattle.api_json.specs.Objects.{wrap_object}
pub use Rattle.api_json.specs.Parsed.{data_of}
pub use Rattle.api_json.specs.Reads.{IsReadErr}
pub use Rattle.api_json.specs.Reply.{lease_reply, plain_reply, wrap_reply}
unfoldable pub use Rattle.api_json.specs.Reply.{reply_text}
pub use Rattle.broker_types.specs.Answer.{HasRoom}
pub use Rattle.broker_types.specs.FewerLaws.{AreFewer, IsLess}
pub use Rattle.broker_types.specs.FirstLaws.{first_sound}
pub use Rattle.broker_types.specs.IdentifierLaws.{id-same, reads_back}
pub use Rattle.broker_types.specs.Laws.{IsTree}
pub use Rattle.broker_types.specs.LineageLaws.{all_apart, climb_above, climb_at, climb_distinct, climb_enough}
pub use Rattle.broker_types.specs.LineageLaws.{get-revoke, is_under_trans}
pub use Rattle.broker_types.specs.MapLaws.{entries-map_values, one_entry, valued_none}
pub use Rattle.broker_types.specs.OptionLaws.{if_none_weaker, is_there, not_there, of_none, of_some}
pub use Rattle.broker_types.specs.PathLaws.{slash_not_last}
pub use Rattle.broker_types.specs.PutLaws.{put_filled, put_keeps, put_there}
pub use Rattle.broker_types.specs.RefuseLaws.{some_ok, unless_ok}
pub use Rattle.broker_types.specs.RemovalLaws.{at_moment_ends, at_moment_evolves, at_moment_sound, revoke_orphan_sound}
pub use Rattle.broker_types.specs.RemovalLaws.{revoke_sound}
pub use Rattle.broker_types.specs.RequestError.{EndsErr}
pub use Rattle.broker_types.specs.Sound.{IsLeaseId}
pub use Rattle.broker_types.specs.SpendingLaws.{end_spent_evolves, end_spent_sound, spend_evolves, spend_sound}
pub use Rattle.broker_types.specs.TextLaws.{same_false}
pub use Rattle.broker_types.specs.TreeLaws.{alive_is, alive_tree, left_outlasts, orphan_gone, orphan_none, orphan_tree}
pub use Rattle.broker_types.specs.TreeLaws.{orphan_unrelated, orphaned_is, outlasting_is_left, revoke_tree, under_self}
pub use Rattle.broker_types.specs.UsedLaws.{first_new, rest_new}
pub use Rattle.broker_types.specs.Words.{add-zero, climb, common_steps, Consumes-trans, count_by-le-length}
pub use Rattle.broker_types.specs.Words.{drop-append-add, drop-append-le, drop_of_length-le, eqb-false, eqb_tells}
pub use Rattle.broker_types.specs.Words.{filter-append, flat_map, flat_map-append, from_be_bytes, HasEnded, id, IfNone}
pub use Rattle.broker_types.specs.Words.{IfSome, le-leb, length-filter, longest_custom_name, longest_custom_value}
pub use Rattle.broker_types.specs.Words.{ltb-false, map-append, MatchResult, ne_eqb, response_of, secret_mount}
pub use Rattle.broker_types.specs.Words.{status_code, string_cmp, T_from_true, to_be_bytes, Vec, w128}
pub use Rattle.broker_types.specs.Words.{without_descendants, without_parent, without_slash}
unfoldable pub use Rattle.broker_types.specs.Words.{civil, day_from_month, day_from_year}
pub use Rattle.cubbyhole.specs.Cubbyhole.{delete, edited, object_at, with_cubbyhole, write}
pub use Rattle.cubbyhole.specs.Laws.{EndedLeaveNothing, without_cubbyholes}
pub use Rattle.cubbyhole.specs.ObjectLaws.{key_parts, token_whole}
pub use Rattle.cubbyhole.specs.Objects.{object_key}
pub use Rattle.cubbyhole.specs.SoundLaws.{delete_sound, write_sound}
pub use Rattle.kv2.specs.Changes.{ChangesVersions}
pub use Rattle.kv2.specs.InRange.{AreWithinLimits}
pub use Rattle.kv2.specs.Metadata.{Metadata, metadata_of, oldest_of, version_metadata}
pub use Rattle.kv2.specs.SecretRows.{AreChanged, is_key_of, KeepsOtherMounts, KeepsOtherNames, versions_prefix}
pub use Rattle.kv2.specs.Secrets.{delete_versions, destroy, drop_mount, key_at, remove_key, secret_name, set_config}
pub use Rattle.kv2.specs.Secrets.{undelete, with_key, with_versions, write_over, Written, written}
pub use Rattle.kv2.specs.SoundLaws.{delete_versions_sound, destroy_sound, drop_mount_sound, is_secret_name}
pub use Rattle.kv2.specs.SoundLaws.{remove_key_sound, set_config_sound, set_metadata_sound, undelete_sound, write_is}
pub use Rattle.kv2.specs.VersionLaws.{get-change_versions, next_versions}
pub use Rattle.kv2.specs.Versions.{asked_number, check_and_set, checked, described, destroyed, Found, is_among}
pub use Rattle.kv2.specs.Versions.{key_or_new, new_version, numbered, restored, Settings, soft_deleted, version_of}
pub use Rattle.kv2.specs.Versions.{versions_kept, with_changed, with_version, WriteAnswer}
pub use Rattle.leases.specs.Endings.{are_owned, AreReadable, either, Ending, EndsLeases, Leaves}
pub use Rattle.leases.specs.IssuedLaws.{identifier_of_id, issue_sound, new_lease_sound}
pub use Rattle.leases.specs.Laws.{AreLeft, EndedAreTold, MayBeIssued}
pub use Rattle.leases.specs.LeaseRows.{KeepsOtherLeases, RepresentsLeases}
pub use Rattle.leases.specs.Leases.{live, Renewed, renewed, renewed_end, revoke_under, Times, times_of, with_renewed}
pub use Rattle.leases.specs.LeftLaws.{all_readable, ends_added, expire_too, go_with_tokens, nothing_ends}
pub use Rattle.leases.specs.LeftLaws.{readable_after, same_rows}
pub use Rattle.leases.specs.Removed.{AreStillDue}
pub use Rattle.leases.specs.Roles.{creds, drop_roles, is_last_use, Issued, IssuedLease, lease_id, longest, new_lease}
pub use Rattle.leases.specs.Roles.{remove_role, role_name}
pub use Rattle.leases.specs.SoundLaws.{shows_in_leases}
pub use Rattle.leases.specs.StaysSoundLaws.{drop_roles_sound, remove_role_sound, renew_sound, revoke_under_sound}
pub use Rattle.leases.specs.StaysSoundLaws.{set_role_sound}
pub use Rattle.leases.specs.TellLaws.{are_leases, AreLeases, token_of}
pub use Rattle.mounts.specs.CutLaws.{cut_none, cut_some}
pub use Rattle.mounts.specs.Forms.{are_bytes, form_of, has_form, is_ending, parameter, segments}
pub use Rattle.mounts.specs.FoundLaws.{bytes_of_rest, found_alone, is_or_apart, row_of}
pub use Rattle.mounts.specs.Laws.{AreInOrder, FoundByForm, NoneFoundByForm}
pub use Rattle.mounts.specs.MountRows.{AreMounts, IsKnownAt, IsMountAt}
pub use Rattle.mounts.specs.Mounts.{disabled, enabled, engine_asked, listed_types, may_go, new_mount, plain_mount}
pub use Rattle.mounts.specs.Mounts.{printed, typed, with_type}
pub use Rattle.mounts.specs.Patterns.{has_pattern, is_row, pattern_found, same_verb}
pub use Rattle.mounts.specs.Route.{cut, methods_of, operation_for, Route, route_by, route_of, row_asks_sudo, within}
unfoldable pub use Rattle.mounts.specs.Route.{asks_sudo, operation_at, route_at}
pub use Rattle.mounts.specs.RouteRow.{RouteRow}
pub use Rattle.mounts.specs.RouteTable.{facts, route_rows, takes_parameter}
pub use Rattle.mounts.specs.SoundLaws.{disabled_sound, enabled_sound}
pub use Rattle.mounts.specs.TellLaws.{mounts_told, told_mounts}
pub use Rattle.mounts.specs.Types.{engine_type, fixed_type, type_at, type_of}
pub use Rattle.policies.specs.Allows.{is_granted, is_named}
unfoldable pub use Rattle.policies.specs.Allows.{allows}
pub use Rattle.policies.specs.Grants.{grants}
unfoldable pub use Rattle.policies.specs.Grants.{rules_named, rules_of}
pub use Rattle.policies.specs.Laws.{AllThatIsGranted, IsGranted, OnlyWhatIsGranted, RootMayDoAll}
pub use Rattle.policies.specs.Patterns.{tried}
pub use Rattle.policies.specs.Policies.{deleted, fixed, is_root, set, text_of}
pub use Rattle.policies.specs.PolicyLaws.{first_policy, told_at}
pub use Rattle.policies.specs.PolicyRows.{ArePolicies, ArePoliciesAt}
pub use Rattle.policies.specs.PolicyTexts.{ends_in_star, is_policy, policy_of, star, unsupported, word_named}
unfoldable pub use Rattle.policies.specs.PolicyTexts.{pattern_of}
pub use Rattle.policies.specs.Rules.{Rule, Rules}
pub use Rattle.policies.specs.SoundLaws.{deleted_sound, set_sound}
pub use Rattle.policies.specs.TellLaws.{policies_told, told_policies}
pub use Rattle.records.specs.CallLaws.{fault_goes_on, on_answer_weaker}
pub use Rattle.records.specs.Calls.{IsReading, OnAnswer, OnRefused}
pub use Rattle.records.specs.ClockLaws.{clock_at, rows-with_clock, with_clock}
pub use Rattle.records.specs.DigitLaws.{padded_read, wide, zeros_more}
pub use Rattle.records.specs.EntryLaws.{at_entry, element_cases, entry_at, kept_cases}
pub use Rattle.records.specs.EntryMapLaws.{ascending_entries}
pub use Rattle.records.specs.FirstRows.{with_root, with_settings}
pub use Rattle.records.specs.FirstRowsLaws.{rows-first}
pub use Rattle.records.specs.ListRows.{list_rows}
pub use Rattle.records.specs.PartLaws.{joined_rows, rows_of-other_mounts, rows_of-other_policies, rows_of-other_roles}
pub use Rattle.records.specs.PartLaws.{rows_of-other_secrets, rows_of-other_tokens, rows_of-other_used}
pub use Rattle.records.specs.PartLaws.{rows_of-other_waiting}
pub use Rattle.records.specs.RangeLaws.{identifier_short, name_short}
pub use Rattle.records.specs.Rows.{secret_rows, token_rows, waiting_rows}
pub use Rattle.records.specs.SecretNameLaws.{mount_no_slash, name_no_slash}
pub use Rattle.records.specs.UpgradedLaws.{clock_stays, empty_before, empty_stays}
pub use Rattle.records.specs.Words.{[], ℕ, ⊎_elim, ⊤, ◌>>=◌, ◌∙◌, accessor_row, accessor_word, add-sub_cancel}
pub use Rattle.records.specs.Words.{AgreeOutside, alive_at, All-append, All-cons, All-contains, All-contains_itself}
pub use Rattle.records.specs.Words.{All-filter, All-head, All-map, All-nil, All-push, All-tail, All-weaker}
pub use Rattle.records.specs.Words.{AllByRecursion, AllUsed, and_from, and_parts, Answered, any_contained, ap}
pub use Rattle.records.specs.Words.{append-nil, append_assoc, Appends, are_new, AreDue, ArePlain, AreUpgraded, arith}
pub use Rattle.records.specs.Words.{Ask, at_moment, BadStart, below, below_all, Bool, Bor, Broker, bytes_eq-Decides}
pub use Rattle.records.specs.Words.{cases_Bool, cases_lt, cases_order, ChainsEnd, change, child, children, clock_row}
pub use Rattle.records.specs.Words.{codes, concat, cond, Consumes, Contains, Contains-append_left}
pub use Rattle.records.specs.Words.{Contains-append_right, Contains-filter, Contains-get_or, contains_key-keys}
pub use Rattle.records.specs.Words.{credential, credential_is, credential_row, cubby_row, cubby_row-injective, Damaged}
pub use Rattle.records.specs.Words.{digits_after, digits_after-padded, digits_are, Done, drop, drop-append_seam}
pub use Rattle.records.specs.Words.{drop_ends_origin, drop_evolves, drop_sound, drop_takes_out, drop_waiting}
pub use Rattle.records.specs.Words.{each_entry, each_listed, empty, end_spent, Ends, ends_above, ends_at, ends_in_time}
pub use Rattle.records.specs.Words.{ends_within, EndsOk, EndsRefused, Engine, entries, entries-empty, entries-insert}
pub use Rattle.records.specs.Words.{entries_sorted, entry_row, entry_row-injective, eq_by_cmp, eq_by_cmp_equiv}
pub use Rattle.records.specs.Words.{eqb-true, eqb_self, Equal, Err, err_from_is_err_and, Evolves, evolves_self}
pub use Rattle.records.specs.Words.{evolves_trans, false, false_from_ne_true, false≢true, Fault, fault_number}
pub use Rattle.records.specs.Words.{few_listed, fewer_sound, filter, FinMap, first_broker, first_sorted, first_where}
pub use Rattle.records.specs.Words.{first_where_is, first_where_none, first_where_only, fold, folder, Forms, found_in}
pub use Rattle.records.specs.Words.{found_or_not, from_entries, get, get-change, get-empty, get-entries}
pub use Rattle.records.specs.Words.{get-from_entries, get-insert, get-keep, get-lookup, get-map_values, get-put}
pub use Rattle.records.specs.Words.{get-put_self, get-without, get-without_self, get_or, get_or_default, goes_further}
pub use Rattle.records.specs.Words.{GoesOn, Greater, greatest_moment, greatest_version, has, has_lease, has_prefix}
pub use Rattle.records.specs.Words.{has_slash, honest_before, id-length, identifier_at, IfErr, IfOk, IfOk-weaker}
pub use Rattle.records.specs.Words.{in_found, inl, inr, insert, is_ascending, is_eq, is_equal, is_ge, is_gt, is_le}
pub use Rattle.records.specs.Words.{is_lt, is_mount_name, is_name, is_none, is_nothing, is_of_kind, is_path}
pub use Rattle.records.specs.Words.{is_path_byte, is_segment, is_some, is_sorted, is_sorted-where_key, is_spent}
pub use Rattle.records.specs.Words.{is_storage, is_under, is_utf8-from_IsUtf8, IsAntisymmetric, IsCustomPair, IsEnd}
pub use Rattle.records.specs.Words.{IsHonest, IsHonestStore, IsIdentifier, IsKeyInRange, IsLeaseInRange}
pub use Rattle.records.specs.Words.{IsMemoryOrStorage, IsMeta, IsMoment, IsMountInRange, IsNew, IsObjectText, IsOldKey}
pub use Rattle.records.specs.Words.{IsPathText, IsRefused, IsRoleInRange, IsSecretName, IsShortPair, IsShortText}
pub use Rattle.records.specs.Words.{IsSomeIn, IsSoundKey, IsSoundLease, IsSoundMount, IsSoundPolicy, IsSoundRole}
pub use Rattle.records.specs.Words.{IsSoundToken, IsSoundVersion, IsSoundWaiting, IsSplitOnceResult, issued, IsTakenOut}
pub use Rattle.records.specs.Words.{IsTokenInRange, IsTokenText, IsTotalOrder, IsTrue, IsUsed, IsUtf8, IsVersionInRange}
pub use Rattle.records.specs.Words.{IsWaitingInRange, IsWide, just_above, keep, KeepsOthers, Kept, kept_get, kept_text}
pub use Rattle.records.specs.Words.{Key, key_cmp, key_cmp_exact, key_cmp_total, key_entry, key_entry_row}
pub use Rattle.records.specs.Words.{key_entry_row-injective, key_has_slash, key_in_range, key_path, key_row, key_token}
pub use Rattle.records.specs.Words.{KeyEntry, keys, kind_number, kv, lacking_split, lacks, last_got, last_of, le-ltb}
pub use Rattle.records.specs.Words.{le_trans, Lease, lease, lease_identifier, lease_in_range, lease_of}
pub use Rattle.records.specs.Words.{lease_of_credential, lease_row, lease_row-injective, leb-false, leb-true, len}
pub use Rattle.records.specs.Words.{len-entries, length, length-append, length-drop, length-map, length-take}
pub use Rattle.records.specs.Words.{length-token, Less, line_feed, lineage, lineage_child, lineage_orphan, List}
pub use Rattle.records.specs.Words.{list_all, list_any, listed_entries, lit<, longest_duration, longest_ttl, lookup}
pub use Rattle.records.specs.Words.{lt-ltb, ltb-true, Map, map, map_push, map_values, mapped, mapped_none}
pub use Rattle.records.specs.Words.{match_ordering, member, Memory, min, min-le_left, min-le_right, missing}
pub use Rattle.records.specs.Words.{most_custom_metadata, Mount, mount_row, name_lacks, Names, nat_cmp}
pub use Rattle.records.specs.Words.{nat_cmp-IsAntisymmetric, nat_cmp_total, nat_eq, nat_le, nat_list_cmp_total, nat_lt}
pub use Rattle.records.specs.Words.{nat_tests, nil_from_length, no_entry, no_ok, None, none-some, none_found, none_of}
pub use Rattle.records.specs.Words.{not, not-false, not-true, not_below_none, not_damaged, nothing, object_row}
pub use Rattle.records.specs.Words.{of_cubbyholes, of_leases, of_mounts, of_policies, of_roles, of_secrets, of_tokens}
pub use Rattle.records.specs.Words.{of_tokens_and_theirs, of_used, of_waiting, Ok, ok_inj, ok_step, old_key_row}
pub use Rattle.records.specs.Words.{old_rows_of, on_both, on_ok_weaker, one_less, OnePasses, OnePlaceEach, OnOk, Option}
pub use Rattle.records.specs.Words.{option_and_then, option_map, option_map_or, or_cases, or_else, or_left, or_parts}
pub use Rattle.records.specs.Words.{or_right, Ordering, ordering_reverse, ordering_then, OriginIsGone, orphan_child}
pub use Rattle.records.specs.Words.{orphan_unknown, orphaned_by, padded, page_finds, ParentsExist, Part, passing}
pub use Rattle.records.specs.Words.{passing_each, passing_whole, place_token, plainly, policy_row, policy_row-injective}
pub use Rattle.records.specs.Words.{put, put_is, Reads, ReadsWithMemory, refl, Refusal, Refused, refused, Reply, reply}
pub use Rattle.records.specs.Words.{RequestError, reserved_names, Response, Result, revoke, revoke_orphan, revoke_other}
pub use Rattle.records.specs.Words.{revoke_unknown, Role, role_row, root_token, RowKey, Rows, rows_from, rows_owned}
pub use Rattle.records.specs.Words.{rows_under, rules, same-text_cmp, same_entries, same_entries_map, same_kind}
pub use Rattle.records.specs.Words.{same_map, same_self, same_Some, same_true, Seen, set_of, slash}
pub use Rattle.records.specs.Words.{slice_cmp-IsAntisymmetric, slice_get, Some, some_or, Sound, sound_with}
pub use Rattle.records.specs.Words.{SoundIdentifiers, SoundMounts, SoundSecrets, SoundTokens, SoundWaiting, spend}
pub use Rattle.records.specs.Words.{split-lacking, split_once, starts_with, Storage, String, string_bytes, subst, suc}
pub use Rattle.records.specs.Words.{sym, T, T_true, Table, table, table_of, table_of-injective, table_of-insert, take}
pub use Rattle.records.specs.Words.{take-append-drop, take-append_seam, take_all, take_more, Tells, Text, text_cmp}
pub use Rattle.records.specs.Words.{tied_itself, Token, token, token_entry, token_identifier, token_in_range, token_len}
pub use Rattle.records.specs.Words.{token_row, token_text, token_word, TokenEntry, Tokens, tree_of, true, true≢false}
pub use Rattle.records.specs.Words.{under_tokens, unless, Unspent, unspent_still, unwrap_or, update_apart, upto, use_up}
pub use Rattle.records.specs.Words.{used_row, valued_is, values_tree, Verb, Version, version_at, version_in_range}
pub use Rattle.records.specs.Words.{version_key, version_of_digits, version_of_digits-padded, version_row}
pub use Rattle.records.specs.Words.{version_row-injective, version_row_of, WaitedBefore, Waiting, waiting_ends}
pub use Rattle.records.specs.Words.{waiting_in_range, waiting_row, waiting_row-injective, WasBefore, with_live_leases}
pub use Rattle.records.specs.Words.{with_row, with_values, without, without_is, without_under, Words, wrapping_token}
pub use Rattle.records.specs.Words.{zero}
unfoldable pub use Rattle.records.specs.Words.{chars, default_policy, digits, is_utf8, IsDistinct, names_of, number}
unfoldable pub use Rattle.records.specs.Words.{rows_of, same}
pub use Rattle.token_tree.specs.AccessorLaws.{names_of_row}
pub use Rattle.token_tree.specs.Accessors.{names_token}
pub use Rattle.token_tree.specs.Laws.{AccessorsNameTheirTokens, NamedTokensHaveTheirAccessors}
pub use Rattle.token_tree.specs.SoundLaws.{create_sound}
pub use Rattle.token_tree.specs.SpentLaws.{nothing_spent}
pub use Rattle.token_tree.specs.TokenRows.{IsTokenAt, SpendsUse}
pub use Rattle.token_tree.specs.Tokens.{AreEnded, created, find_accessor, MayBeMade, RepresentsTokens, with_end}
pub use Rattle.token_tree.specs.Tokens.{with_token, without_expired}
pub use Rattle.wrapping.specs.Laws.{NamedHaveTheirAccessors}
pub use Rattle.wrapping.specs.ResponseLaws.{drop_unknown, moved_is_taken_out, moved_waits, others_wait, rewrap_is}
pub use Rattle.wrapping.specs.ResponseLaws.{store_adds_one}
pub use Rattle.wrapping.specs.SoundLaws.{ends_sound, rewrap_sound, store_evolves, store_sound}
pub use Rattle.wrapping.specs.WaitingRows.{RepresentsWaiting, with_moved, with_response}
pub use Rattle.wrapping.specs.Wrapping.{AddsNone, has_accessor, moved, rewrap, with_waiting, without_ended}
-- types of the crates below, and their variants
pub use Rattle.api_json.specs.declared.issued_bodies.RoleSettings.{RoleSettings}
pub use Rattle.api_json.specs.declared.lease_bodies.LeaseRenewal.{LeaseRenewal}
pub use Rattle.api_json.specs.declared.lease_objects.LeaseObject.{LeaseObject}
pub use Rattle.api_json.specs.declared.mount_bodies.MountCreation.{MountCreation}
pub use Rattle.api_json.specs.declared.mount_objects.MountObject.{MountObject}
pub use Rattle.api_json.specs.declared.secret_bodies.KeySettings.{KeySettings}
pub use Rattle.api_json.specs.declared.secret_bodies.MountSettings.{MountSettings}
pub use Rattle.api_json.specs.declared.secret_bodies.SecretWrite.{SecretWrite}
pub use Rattle.api_json.specs.declared.secret_objects.KeyObject.{KeyObject}
pub use Rattle.api_json.specs.declared.token_bodies.TokenCreation.{TokenCreation}
pub use Rattle.api_json.specs.declared.token_bodies.TokenRenewal.{TokenRenewal}
pub use Rattle.api_json.specs.declared.token_objects.AuthObject.{AuthObject}
pub use Rattle.api_json.specs.declared.token_objects.TokenObject.{TokenObject}
pub use Rattle.api_json.specs.declared.version_list.VersionObject.{VersionObject}
pub use Rattle.broker_types.specs.declared.answer.Answer.{Answer}
pub use Rattle.broker_types.specs.declared.refusal.Reason.{Reason}
pub use Rattle.broker_types.specs.declared.status.Status.{Status}
pub use Rattle.mounts.specs.declared.mount_type.MountType.{MountType}
pub use Rattle.mounts.specs.declared.operation.CubbyholeOperation.{CubbyholeOperation}
pub use Rattle.mounts.specs.declared.operation.Facts.{Facts}
pub use Rattle.mounts.specs.declared.operation.Opens.{Opens}
pub use Rattle.mounts.specs.declared.operation.Opens.TheVariants.{Always, Never, WithItsOwn}
pub use Rattle.mounts.specs.declared.operation.Operation.{Operation}
pub use Rattle.mounts.specs.declared.operation.Operation.TheVariants.{Cubbyholes, Leases, Mounts, Policies, Secrets}
pub use Rattle.mounts.specs.declared.operation.Operation.TheVariants.{Wrappings}
pub use Rattle.mounts.specs.declared.operation.Stores.{Stores}
pub use Rattle.mounts.specs.declared.operation.TokenOperation.{TokenOperation}
pub use Rattle.mounts.specs.declared.operation.WrappingOperation.{WrappingOperation}
pub use Rattle.policies.specs.declared.capability.Capability.{Capability}
pub use Rattle.policies.specs.declared.capability.Capability.TheVariants.{Create, Delete, Read, Sudo, Update}
pub use Rattle.policies.specs.declared.capability.Word.{Word}
pub use Rattle.policies.specs.declared.capability.Word.TheVariants.{Deny, Grant, Patch}
pub use Rattle.policies.specs.declared.pattern.Pattern.{Pattern}
pub use Rattle.policies.specs.declared.pattern.Pattern.TheVariants.{Exact, Prefix}
pub use Rattle.records.specs.declared.holder.Holder.{Holder}
pub use Rattle.records.specs.declared.kind.Kind.{Kind}
pub use Rattle.records.specs.declared.row.Row.{Row}
-- types of this crate, for its proofs alone
pub use Rattle.broker_model.specs.declared.commands.WrappingCommand.{WrappingCommand}
pub use Rattle.broker_model.specs.declared.making.Making.{Making}
-- definitions
pub use Rattle.broker_model.specs.Act.{act}
pub use Rattle.broker_model.specs.Capabilities.{asked, asked_by, capability, has_stored, stands_there, stored}
pub use Rattle.broker_model.specs.Capabilities.{stored_at}
pub use Rattle.broker_model.specs.Command.{Command, command_by, command_for, command_of, meant_by, on_cubbyhole}
pub use Rattle.broker_model.specs.Command.{on_issued, on_lease, on_mount, on_policy, on_secret, on_token, on_wrapping}
pub use Rattle.broker_model.specs.Command.{place_of}
pub use Rattle.broker_model.specs.Effects.{AllGiven, AreGiven, Both, Does, is_kept, IsFated, IsGiven, IsNewTo}
pub use Rattle.broker_model.specs.Effects.{KeepsMaps, SameUnless, SecretsStay, Stay, StaysAt, VersionsStay}
pub use Rattle.broker_model.specs.Forms.{forms}
pub use Rattle.broker_model.specs.ListedResponses.{IsListed}
pub use Rattle.broker_model.specs.Order.{counted, denied, finish, for_caller, IsProper, kept_entry, needed, ordered}
pub use Rattle.broker_model.specs.Order.{Outcome, permission_denied, response_to, serve, unwrapped, wrap, wrap_200}
pub use Rattle.broker_model.specs.Order.{wrap_info, Wrapped, wrapped, wraps}
pub use Rattle.broker_model.specs.Permission.{may, may_ask, permits}
pub use Rattle.broker_model.specs.Request.{Request}
pub use Rattle.broker_model.specs.Responses.{no_content, not_found, ok}
pub use Rattle.broker_model.specs.ServedAsks.{acted, answered_openly, called, is_open, is_wrapped, needed_by, operated}
pub use Rattle.broker_model.specs.ServedAsks.{served}
pub use Rattle.broker_model.specs.Step.{request_of, traits, unwrapped_ask}
unfoldable pub use Rattle.broker_model.specs.Step.{step}
pub use Rattle.broker_model.specs.Traits.{by_accessor, Fate, lease_names, make, may_change, Named, names_needed, orphan}
pub use Rattle.broker_model.specs.Traits.{renew, stay, text_named, token_names, Traits, wrapping_names}
pub use Rattle.broker_model.specs.parts.AclPolicies.{act_on_policies, policy_changes}
pub use Rattle.broker_model.specs.parts.Bodies.{read_as, read_none}
pub use Rattle.broker_model.specs.parts.Cubbyholes.{act_on_cubbyhole, cubbyhole_changes, full_text}
pub use Rattle.broker_model.specs.parts.Issued.{act_on_issued, issue, issued_changes, issued_reply, of_issued, set_role}
pub use Rattle.broker_model.specs.parts.Leases.{act_on_leases, lease_changes, shown_lease}
pub use Rattle.broker_model.specs.parts.Lists.{are_none, list_reply, listed}
pub use Rattle.broker_model.specs.parts.Mounts.{act_on_mounts, disable, mount_changes, of_mounts_and_kept, shown_mount}
pub use Rattle.broker_model.specs.parts.Mounts.{without_kept}
pub use Rattle.broker_model.specs.parts.Place.{at, Place}
pub use Rattle.broker_model.specs.parts.SecretReplies.{metadata_reply, object_left, secret_told, settings_reply}
pub use Rattle.broker_model.specs.parts.SecretReplies.{version_answered, version_made, version_reply, version_shown}
pub use Rattle.broker_model.specs.parts.SecretReplies.{version_told, written_reply}
pub use Rattle.broker_model.specs.parts.Secrets.{act_on_secrets, given_settings, secret_changes}
pub use Rattle.broker_model.specs.parts.TokenCommands.{of_ended, token_changes, token_command, token_fate}
pub use Rattle.broker_model.specs.parts.TokenCreation.{asked_time, asked_ttl, default_name, has_no_end, have_root}
pub use Rattle.broker_model.specs.parts.TokenCreation.{is_privileged, makes_orphans, making_path, may_make, new_parent}
pub use Rattle.broker_model.specs.parts.TokenCreation.{new_policies, new_token, or_longest, policies_given, use_limit}
pub use Rattle.broker_model.specs.parts.TokenCreation.{without_default}
pub use Rattle.broker_model.specs.parts.TokenReplies.{auth_of, auth_reply, looked_up, seconds_left, token_reply}
pub use Rattle.broker_model.specs.parts.Tokens.{act_on_tokens, create, create_with, holder, known, look_up, made, named}
pub use Rattle.broker_model.specs.parts.Tokens.{new_end, periodic_end, prolonged_end, renew_token, revoke_alone}
pub use Rattle.broker_model.specs.parts.Tokens.{revoke_named, revoke_token}
pub use Rattle.broker_model.specs.parts.WrappingCommands.{is_own, is_own_if_read, is_wrap, of_moved, opened_by, opening}
pub use Rattle.broker_model.specs.parts.WrappingCommands.{opens, token_meant, token_named, unwrap_meant}
pub use Rattle.broker_model.specs.parts.WrappingCommands.{wrapping_changes, wrapping_command, wrapping_traits}
pub use Rattle.broker_model.specs.parts.Wrappings.{act_on_wrappings, found, found_at, found_under, FoundResponse}
pub use Rattle.broker_model.specs.parts.Wrappings.{handed_out, rewrapped, shown_response}
-- laws
pub use Rattle.broker_model.specs.CreationLaws.{allowed, has_set, kept, no_more_policies, root_is_own, set_has}
pub use Rattle.broker_model.specs.EffectLaws.{both_there, chained, it_stays, secrets_same, versions_self}
pub use Rattle.broker_model.specs.Laws.{AllowsListAlone, AreWrappingNames, list_alone, ListsTheWhole}
pub use Rattle.broker_model.specs.Laws.{MeansBelowCubbyhole, OperationsDoAsTold, OwnIsMeant}
pub use Rattle.broker_model.specs.Laws.{WrappingCommandsKeepSoundness, WrappingKeepsSoundness}
pub use Rattle.broker_model.specs.NewIdentifierLaws.{AreTwo, first_in, later_in, member_new, new_after, two_of}
pub use Rattle.broker_model.specs.ProperLaws.{are_proper, proper_of}
