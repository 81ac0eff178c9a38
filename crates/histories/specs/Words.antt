-- The names that specs and proofs cite most, passed on from one place. Declares nothing.
-- of std and the ported crates
pub use Rattle.serde_json.specs.Data.{Members, object}
pub use Rattle.serde_json.specs.Written.{compact_text}
-- of the crates below
pub use Rattle.api_json.specs.Words.{Field}
pub use Rattle.broker_model.specs.Words.{[], AccessorsNameTheirTokens, act, act_on_issued, act_on_leases, act_on_mounts}
pub use Rattle.broker_model.specs.Words.{act_on_secrets, act_on_tokens, act_on_wrappings, alive_is, All-head, All-tail}
pub use Rattle.broker_model.specs.Words.{AllByRecursion, allowed, AllThatIsGranted, Always, and_from, and_parts}
pub use Rattle.broker_model.specs.Words.{Answered, any_contained, ap, are_bytes, are_new, are_none, are_proper}
pub use Rattle.broker_model.specs.Words.{AreInOrder, arith, Ask, asked_number, asked_time, asked_ttl, at_moment}
pub use Rattle.broker_model.specs.Words.{at_moment_evolves, auth_object, auth_reply, below, body_members, Bool, Both}
pub use Rattle.broker_model.specs.Words.{both_there, Broker, cases_order, chained, change, check_and_set, checked}
pub use Rattle.broker_model.specs.Words.{child, children, climb, climb_above, climb_at, codes, Command, command_by}
pub use Rattle.broker_model.specs.Words.{command_for, command_of, cond, Contains, counted, create, credential_object}
pub use Rattle.broker_model.specs.Words.{cubbyhole_changes, CubbyholeOperation, Cubbyholes, cut, denied, described}
pub use Rattle.broker_model.specs.Words.{destroyed, disabled, Does, Done, drop, drop_waiting, edited, enabled}
pub use Rattle.broker_model.specs.Words.{end_spent, ends_above, ends_at, ends_within, Engine, engine_asked, engine_type}
pub use Rattle.broker_model.specs.Words.{entries, eq-eqb, eqb-true, Err, Evolves, facts, false, false_from_ne_true}
pub use Rattle.broker_model.specs.Words.{false≢true, Fate, filter, find_accessor, finish, first_in, first_where}
pub use Rattle.broker_model.specs.Words.{first_where_is, first_where_none, fixed_type, folder, for_caller, form_of}
pub use Rattle.broker_model.specs.Words.{forms, Found, found, found_at, found_or_not, found_under, FoundByForm}
pub use Rattle.broker_model.specs.Words.{FoundResponse, get, get-change, get-change_versions, get-empty, get-keep}
pub use Rattle.broker_model.specs.Words.{get-map_values, get-put, get-put_self, get-revoke, get-without}
pub use Rattle.broker_model.specs.Words.{get-without_self, given_settings, grants, greatest_version, handed_out, has}
pub use Rattle.broker_model.specs.Words.{has_form, has_lease, has_no_end, has_set, HasEnded, have_root, holder, id}
pub use Rattle.broker_model.specs.Words.{identifier_at, inl, inr, is_among, is_ending, is_kept, is_last_use, is_name}
pub use Rattle.broker_model.specs.Words.{is_none, is_nothing, is_open, is_privileged, is_root, is_some, is_spent}
pub use Rattle.broker_model.specs.Words.{is_there, is_under, is_wrap, is_wrapped, IsFated, IsRefused, issued}
pub use Rattle.broker_model.specs.Words.{issued_changes, IsTakenOut, IsTree, IsUsed, keep, kept_entry, kept_get}
pub use Rattle.broker_model.specs.Words.{kept_text, Key, key_or_new, keys, keys_object, KeySettings, Kind, known, kv}
pub use Rattle.broker_model.specs.Words.{lacking_split, later_in, Lease, lease_changes, lease_identifier, lease_object}
pub use Rattle.broker_model.specs.Words.{lease_of, lease_reply, LeaseRenewal, Leases, len, length, List, list_all}
pub use Rattle.broker_model.specs.Words.{list_any, longest_ttl, lt-ltb, ltb-false, ltb-true, made, make, makes_orphans}
pub use Rattle.broker_model.specs.Words.{making_path, Map, map, map_values, mapped, mapped_none, max, may_ask}
pub use Rattle.broker_model.specs.Words.{may_change, may_go, may_make, meant_by, member_new, metadata_of}
pub use Rattle.broker_model.specs.Words.{metadata_reply, methods_of, min, missing, Mount, mount_changes, MountCreation}
pub use Rattle.broker_model.specs.Words.{Mounts, MountType, moved, moved_waits, Named, Names, names_needed, names_of}
pub use Rattle.broker_model.specs.Words.{nat_cmp, nat_eq, nat_lt, ne_eqb, needed, Never, new_end, new_lease, new_parent}
pub use Rattle.broker_model.specs.Words.{new_policies, new_token, no_content, no_entry, no_ok, None, none-some}
pub use Rattle.broker_model.specs.Words.{NoneFoundByForm, not, not-true, not_found, not_there, nothing, numbered}
pub use Rattle.broker_model.specs.Words.{object_left, Ok, ok, ok_inj, ok_step, on_cubbyhole, on_issued, on_lease}
pub use Rattle.broker_model.specs.Words.{on_mount, on_policy, on_secret, on_token, on_wrapping, one_less, OnePlaceEach}
pub use Rattle.broker_model.specs.Words.{OnlyWhatIsGranted, opens, operated, Operation, operation_for}
pub use Rattle.broker_model.specs.Words.{OperationsDoAsTold, Option, option_and_then, option_map, option_map_or}
pub use Rattle.broker_model.specs.Words.{or_cases, or_else, or_left, or_longest, or_parts, or_right, ordered}
pub use Rattle.broker_model.specs.Words.{OriginIsGone, orphan, orphaned_by, others_wait, Outcome, parameter, Part}
pub use Rattle.broker_model.specs.Words.{passing, permission_denied, permits, Place, plain_mount, plain_reply, plainly}
pub use Rattle.broker_model.specs.Words.{Policies, policy_object, policy_of, prolonged_end, put, put_is, put_keeps}
pub use Rattle.broker_model.specs.Words.{put_there, read_as, Reason, refl, Refusal, refused, renew, renew_token, Reply}
pub use Rattle.broker_model.specs.Words.{reply, reply_text, Request, request_of, reserved_names, Response, response_to}
pub use Rattle.broker_model.specs.Words.{restored, Result, revoke, revoke_alone, revoke_orphan, revoke_token, rewrapped}
pub use Rattle.broker_model.specs.Words.{Role, role_name, role_object, RootMayDoAll, Route, route_by, route_of}
pub use Rattle.broker_model.specs.Words.{route_rows, RouteRow, row_of, Rule, same_self, same_Some, same_true}
pub use Rattle.broker_model.specs.Words.{SameUnless, secret_name, secret_object, Secrets, SecretWrite, serve, set_of}
pub use Rattle.broker_model.specs.Words.{shown_lease, shown_response, slash, soft_deleted, Some, some_or, Sound, spend}
pub use Rattle.broker_model.specs.Words.{split_once, starts_with, Status, status_code, Stay, stay, StaysAt, subst, suc}
pub use Rattle.broker_model.specs.Words.{Sudo, sym, take, Text, text_cmp, text_named, text_of, Token, token_entry}
pub use Rattle.broker_model.specs.Words.{token_fate, token_identifier, token_meant, token_names, token_reply}
pub use Rattle.broker_model.specs.Words.{token_text, TokenCreation, TokenOperation, TokenRenewal, Tokens, Traits}
pub use Rattle.broker_model.specs.Words.{traits, true, type_at, type_of, under_self, under_tokens, unless, unless_ok}
pub use Rattle.broker_model.specs.Words.{unwrap_or, unwrapped, unwrapped_ask, use_up, valued_is, valued_none, Verb}
pub use Rattle.broker_model.specs.Words.{Version, version_answered, version_reply, versions_kept, WaitedBefore, Waiting}
pub use Rattle.broker_model.specs.Words.{waiting_ends, with_cubbyhole, with_end, with_version, with_waiting, within}
pub use Rattle.broker_model.specs.Words.{WithItsOwn, without, without_is, without_kept, Words, wrap, wrap_200}
pub use Rattle.broker_model.specs.Words.{wrap_info, wrap_object, wrap_reply, Wrapped, wrapped, wrapping_changes}
pub use Rattle.broker_model.specs.Words.{wrapping_command, wrapping_names, wrapping_token, wrapping_traits}
pub use Rattle.broker_model.specs.Words.{WrappingOperation, Wrappings, wraps, write_over, Written, written}
pub use Rattle.broker_model.specs.Words.{written_reply, zero, ℕ, ⊤, ◌>>=◌, ◌∙◌}
unfoldable pub use Rattle.broker_model.specs.Words.{operation_at, route_at, same, step}
pub use Rattle.broker_model.specs.declared.commands.Needs.{Needs}
pub use Rattle.broker_types.specs.declared.refusal.Denial.{Denial}
pub use Rattle.kv2.specs.Words.{with_settings}
pub use Rattle.leases.specs.Words.{find}
pub use Rattle.mounts.specs.declared.operation.IssuedOperation.{IssuedOperation}
pub use Rattle.mounts.specs.declared.operation.LeaseOperation.{LeaseOperation}
pub use Rattle.mounts.specs.declared.operation.MountOperation.{MountOperation}
pub use Rattle.mounts.specs.declared.operation.Operation.TheVariants.{Issued}
pub use Rattle.mounts.specs.declared.operation.PolicyOperation.{PolicyOperation}
pub use Rattle.mounts.specs.declared.operation.SecretOperation.{SecretOperation}
pub use Rattle.records.specs.Words.{All, revoke_under}
pub use Rattle.token_tree.specs.Words.{by_accessor}
-- types of the crates below, and their variants
pub use Rattle.broker_model.specs.declared.making.Making.TheVariants.{OfCaller, WithoutParent}
pub use Rattle.broker_model.specs.declared.making.Making.{Making}
pub use Rattle.histories.specs.Common.{CubbyholeCommand, IssuedCommand, LeaseCommand, MountCommand, PolicyCommand}
pub use Rattle.histories.specs.Common.{SecretCommand, TokenCommand, WrappingCommand}
-- definitions
pub use Rattle.histories.specs.Allowed.{AllDoAllowed, AllNew, AreNew, AsksItsOwn, AsksNoRoot, HasAccessor, HasLease}
pub use Rattle.histories.specs.Allowed.{HasVersion, identifiers_made, is_done, MayChange, MayCreate, MayEnable}
pub use Rattle.histories.specs.Allowed.{MayWrite, ShowsThere}
pub use Rattle.histories.specs.Callers.{AllServeAllowed, IsAllowed}
pub use Rattle.histories.specs.Creations.{AsksNoEnd, GivesToken, HasPolicies, HasRoot, HasSudo, IsMadeFor, IsWithin}
pub use Rattle.histories.specs.Creations.{MightMake, told_of, with_token}
pub use Rattle.histories.specs.Disabled.{AllDisabledMountsGo, Disables, KeepsOthers, LeavesNothing}
pub use Rattle.histories.specs.Documented.{AccessorsHideTokens, AreAsDocumented, AsksByVerb, capability_words}
pub use Rattle.histories.specs.Documented.{IsFirstPart, ListsFolder, MakesAnew, PoliciesAreRead, SudoIsNeeded}
pub use Rattle.histories.specs.History.{AreAsked, AreSteps, AskedAt, Asking, Beginning, begun, clocked, given_out}
pub use Rattle.histories.specs.History.{History, IsAsked, IsStep, left_by, spent_by}
pub use Rattle.histories.specs.Identifiers.{AreUsed, EachIsTold, GivesOutNew, NoIdentifierTwice}
pub use Rattle.histories.specs.KeptResponses.{answer_by, EndsWrappingToken, first_entry, HandedOutOnce, HandsOutKept}
pub use Rattle.histories.specs.KeptResponses.{HasAsClient, IsKeptReply, KeepsReply, looked_up_text, object_text}
pub use Rattle.histories.specs.KeptResponses.{rewrapped_text, Rewraps, SameReply, stays_plain, TakesTokenOut}
pub use Rattle.histories.specs.KeptResponses.{telling_body, Tells, unwrapped_answer, unwrapped_body, Unwraps}
pub use Rattle.histories.specs.KeptResponses.{WaitedFirst}
pub use Rattle.histories.specs.KeptStay.{AllKeptResponsesStay, IsOver, moved_by}
pub use Rattle.histories.specs.LeaseEnds.{AllLeasesStayRevoked, EndsLease, is_below, NamesBelow, NamesMount}
pub use Rattle.histories.specs.LeaseOwners.{GivesLease, IsIssuedTo, IsOfRole}
pub use Rattle.histories.specs.LeasePaths.{AskedMeans, PathsEndLeases}
pub use Rattle.histories.specs.Lifetimes.{AllEndInTime, EndInTimeAt, EndsInTime}
pub use Rattle.histories.specs.MountPaths.{MeansIn, PathsOfIssued, PathsOfSecrets, PathsOfSettings}
pub use Rattle.histories.specs.Open.{DiffersInWaiting, MeansItsOwn, OpenChangesNoToken, TheseAreOpen}
pub use Rattle.histories.specs.Own.{AnswersOwn, Edits, EditsCubbyhole, EndsWithClient, increment_of, IsListAt, IsNewEnd}
pub use Rattle.histories.specs.Own.{IsObjectAt, IsRenewedLease, IsRenewedTo, IsRevoked, LeaseBecomes, LeavesAt}
pub use Rattle.histories.specs.Own.{RenewalOf, RenewsLease, RenewsToken, TokenGoes, TokenStands, with_changed}
pub use Rattle.histories.specs.Paths.{CreatesAtPath, on_found, on_found_lease, on_named, on_none, on_object, on_path}
pub use Rattle.histories.specs.Paths.{path_of, PathsMeanCommands, WrittenMeans}
pub use Rattle.histories.specs.Refused.{Calls, ChangesNothingElse, HasNoCaller, HasResponse, is_granted, IsDenial}
pub use Rattle.histories.specs.Refused.{IsDenied, PoliciesDecide, RefusedChangeNothing, WrapNeedsTtl}
pub use Rattle.histories.specs.Revocation.{EndsToken, EndsWithCaller, FindsNone, has_no_use, is_orphaning}
pub use Rattle.histories.specs.Revocation.{is_revocation, IsClient, IsDue, IsGone, IsGranted, IsLeaseDue, IsMade}
pub use Rattle.histories.specs.Revocation.{IsOrphaned, LacksLease, left_by_caller, named_by, orphaning_by, orphaning_of}
pub use Rattle.histories.specs.Revocation.{parent_asked, Revocation, revoked_by, revoked_of, Revokes, RevokesAlone}
pub use Rattle.histories.specs.Revocation.{taken_as, WasToken, with_later_leases}
pub use Rattle.histories.specs.SecretsStay.{AllSecretsStay}
pub use Rattle.histories.specs.Settings.{AllSettingsFollow, Enables, IsEnabled, MeansEngine, MountBecomes, MountIsSet}
pub use Rattle.histories.specs.Settings.{OnMount, OnPolicy, OnRole, PolicyBecomes, role_given, RoleBecomes, Sets}
pub use Rattle.histories.specs.Settings.{SetsMount}
pub use Rattle.histories.specs.Shown.{AllAnswersShow, IsAccessorOf, IsMountShown, IsPolicyName, IsValid, Lists}
pub use Rattle.histories.specs.Shown.{ListsMounts, mount_shown, SaysValid, ShowsHolder, ShowsLease, ShowsPolicy}
pub use Rattle.histories.specs.Shown.{ShowsRole, ShowsSecret, ShowsSettings, ShowsToken, Succeeds, TellsRenewed}
pub use Rattle.histories.specs.Shown.{TellsRenewedLease, version_shown}
pub use Rattle.histories.specs.Statuses.{AllStatusesFollow, cubbyhole_is_silent, is_silent, IsNeverDone}
pub use Rattle.histories.specs.Statuses.{issued_is_silent, lease_is_silent, mount_is_silent, policy_is_silent}
pub use Rattle.histories.specs.Statuses.{ReadsEnded, secret_is_silent, token_is_silent}
pub use Rattle.histories.specs.Versions.{AllVersionsFollow, AreKept, AreSet, Comes, Commands, Deletes, DidSet, DidWrite}
pub use Rattle.histories.specs.Versions.{DisablesAbove, Holds, IsAsAsked, IsNewKey, IsWritten, LacksVersion, named}
pub use Rattle.histories.specs.Versions.{ReadsVersion, SecretGoes, SecretStands, ShowsEnded, StandsUnwritten}
pub use Rattle.histories.specs.Versions.{VersionStands, Writes, WroteBefore}
pub use Rattle.histories.specs.WhyRefused.{AllTellWhy, Asks, FailsCheck, IsRefusedBy, LacksCheck, LacksId}
-- laws
pub use Rattle.histories.specs.KeepsLaws.{AllKeepLaws, KeepsLaws}
pub use Rattle.histories.specs.Laws.{AllLeasesAreOfCallers, AllMadeAsAllowed, AllOwnStays, AllTokensEndInTime}
pub use Rattle.histories.specs.Laws.{TokensEndInTimeSinceStart}
