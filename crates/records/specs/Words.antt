-- The names that specs and proofs cite most, passed on from one place. Declares nothing.
-- of std
pub use Rattle.std.proofs.Common.{Bor, is_ok, negsuc, rules, zero}
pub use Rattle.std.proofs.Math.Bool.{not-not}
pub use Rattle.std.proofs.Math.Nat.{add-le-add, add-sub_cancel, le-add_left, le-add_right, le_antisymm, le_of_lt}
pub use Rattle.std.proofs.Math.Numerals.{add-one-le}
pub use Rattle.std.proofs.lemmas.Bool.{and_right, cases_Bool, cases_order, leb-false, not-false, not_from_false}
pub use Rattle.std.proofs.lemmas.Bool.{not_from_true, or_left}
pub use Rattle.std.proofs.lemmas.Cmp.{upto}
pub use Rattle.std.proofs.lemmas.Fn.{filter_same}
pub use Rattle.std.proofs.lemmas.Grind.{take-set_at}
pub use Rattle.std.proofs.lemmas.Iterator.{YieldsList-from_slice}
pub use Rattle.std.proofs.lemmas.List.{drop_all, drop_more, flat_map_more, get_or-map, get_or_default, get_or_past}
pub use Rattle.std.proofs.lemmas.List.{map_push, nil_from_length, take-map, take_at}
pub use Rattle.std.proofs.lemmas.List.Elements.{All-contains, All-map, All-push, All-same, All-set, Contains-get_or}
pub use Rattle.std.proofs.lemmas.List.Elements.{filter_agree, recursion_from_All}
pub use Rattle.std.proofs.lemmas.List.Folds.{list_any-append}
pub use Rattle.std.proofs.lemmas.List.Sorted.{answers_always, IsPermutation-cons, IsPermutation-middle}
pub use Rattle.std.proofs.lemmas.List.Sorted.{IsPermutation-refl, IsPermutation-sym, IsPermutation-trans}
pub use Rattle.std.proofs.lemmas.List.Sorted.{length_permutation, list_any-IsPermutation}
pub use Rattle.std.proofs.lemmas.List.Splits.{slice_split_first}
pub use Rattle.std.proofs.lemmas.List.Sums.{fold-append}
pub use Rattle.std.proofs.lemmas.Map.{update_apart}
pub use Rattle.std.proofs.lemmas.Map.Keys.{IsDistinct-push}
pub use Rattle.std.proofs.lemmas.Option.{slice_get-get_or}
pub use Rattle.std.proofs.lemmas.Result.{err_from_is_err_and, on_ok_weaker}
pub use Rattle.std.proofs.lemmas.Str.Pattern.{IsSplitOnceResult, split_once_first, starts_text}
pub use Rattle.std.specs.Char.{is_ascii_graphic, is_ascii_hexdigit}
pub use Rattle.std.specs.Cmp.{alike_right, both_ways, int_cmp_total, IsStrictWeakOrder}
pub use Rattle.std.specs.Coded.{Π_prop, →_prop, code_by, Coded, Coded-set, coded_list, coded_option, coded_ℕ, coded×}
pub use Rattle.std.specs.Coded.{le_prop}
pub use Rattle.std.specs.FinMap.{contains_key-keys, empty_of_len, entries-from_sorted, entries-insert, get-from_sorted}
pub use Rattle.std.specs.FinMap.{get_tied, insert, int_cmp-IsAntisymmetric, same_entries_map}
pub use Rattle.std.specs.FinMap.Entries.{is_some-find, is_sorted-put, same_entries, where_key}
unfoldable pub use Rattle.std.specs.Fmt.{digits}
pub use Rattle.std.specs.List.{concat, fold, onto_first, position}
pub use Rattle.std.specs.Option.{option_copied}
pub use Rattle.std.specs.Ordering.{int_cmp, is_gt, is_ne}
pub use Rattle.std.specs.Prelude.{ℤ, Any, Contains, flat_map, IsPermutation, IsSorted, OnOk, pos}
pub use Rattle.std.specs.Result.{OkIff, result_ok}
unfoldable pub use Rattle.std.specs.Str.{chars}
pub use Rattle.std.specs.Time.{system_time_nanos}
pub use Rattle.std.specs.declared.time.SystemTime.{SystemTime}
-- of the crates below
pub use Rattle.broker_types.specs.Answer.{IsRefused, refused}
pub use Rattle.broker_types.specs.Broker.{Engine, issued}
pub use Rattle.broker_types.specs.EditLaws.{edit_evolves, edit_sound, IsEdit, unspent_still}
pub use Rattle.broker_types.specs.Evolves.{IsNewLease, WaitedBefore, WasBefore}
pub use Rattle.broker_types.specs.EvolvesLaws.{evolves_trans}
pub use Rattle.broker_types.specs.Fault.{fault_number, IsNotBadStart}
pub use Rattle.broker_types.specs.FewerLaws.{edited_sound, fewer_evolves, fewer_sound, same_fewer, tree_of, WaitFewer}
pub use Rattle.broker_types.specs.FieldLaws.{evolves_with, sound_with}
pub use Rattle.broker_types.specs.IdentifierLaws.{id-length}
pub use Rattle.broker_types.specs.IdentifierPlaces.{place_token}
pub use Rattle.broker_types.specs.LineageLaws.{ends_above, ends_at, ends_in_time, revoke_other, revoke_under}
pub use Rattle.broker_types.specs.LineageLaws.{revoke_unknown}
pub use Rattle.broker_types.specs.ListLaws.{any_contained, any_mapped, passing}
pub use Rattle.broker_types.specs.MapLaws.{entries-empty, entries_are, first_where-map_values, get-change, get-keep}
pub use Rattle.broker_types.specs.MapLaws.{get-lookup, get-map_values, get-put, get-put_self, get-without}
pub use Rattle.broker_types.specs.MapLaws.{get-without_self, listing_is, no_entry, same_map, valued_is, without_is}
pub use Rattle.broker_types.specs.Name.{reserved_names}
pub use Rattle.broker_types.specs.Names.{accessor_word, Names, token_word}
unfoldable pub use Rattle.broker_types.specs.Names.{names_of}
pub use Rattle.broker_types.specs.NewPlaceLaws.{first_marked, HasTwoMore, sound_with_two, still_marked}
pub use Rattle.broker_types.specs.Operation.{Answered, Done, kept_text, missing, nothing, plainly, reply}
pub use Rattle.broker_types.specs.OptionLaws.{found_or_not, is_nothing, mapped, mapped_none, taken_out_twice}
pub use Rattle.broker_types.specs.PutLaws.{put_is}
pub use Rattle.broker_types.specs.RefuseLaws.{ends_unless, no_ok, ok_step}
pub use Rattle.broker_types.specs.RemovalLaws.{revoke_evolves, revoke_orphan_evolves}
pub use Rattle.broker_types.specs.RequestError.{Ends, EndsRefused}
pub use Rattle.broker_types.specs.SearchLaws.{each_entry, first_where-keep, first_where_is, first_where_none}
pub use Rattle.broker_types.specs.SearchLaws.{first_where_only, if_kept, kept_get, none_found, OnePasses, same_found}
pub use Rattle.broker_types.specs.SpendingLaws.{drop_ends_origin, drop_evolves, drop_sound, drop_takes_out}
pub use Rattle.broker_types.specs.SpendingLaws.{evolves_self}
pub use Rattle.broker_types.specs.TestLaws.{is_equal, is_less, T_true}
pub use Rattle.broker_types.specs.TextLaws.{same-text_cmp, same_equiv, same_self, same_true}
pub use Rattle.broker_types.specs.TreeLaws.{lineage_child, lineage_none, lineage_orphan, orphan_child, orphan_unknown}
pub use Rattle.broker_types.specs.TreeLaws.{under_tokens, values_tree}
pub use Rattle.broker_types.specs.Words.{[], ℕ, ⊎_elim, ⊤, ◌>>=◌, ◌∙◌, accessor, add-one, after_first, alive_at, All}
pub use Rattle.broker_types.specs.Words.{All-append, All-cons, All-contains_itself, All-filter, All-from_recursion}
pub use Rattle.broker_types.specs.Words.{All-head, All-nil, All-permutation, All-tail, All-weaker, all_ascii_digits}
pub use Rattle.broker_types.specs.Words.{AllByRecursion, AllDigits, AllUsed, and-false, and_from, and_parts}
pub use Rattle.broker_types.specs.Words.{any_from_yields_List, ap, append-nil, append_assoc, Appends, ap₂, are_new}
pub use Rattle.broker_types.specs.Words.{arith, at_drop_more, at_moment, before_first, below_all, Bool, Broker}
pub use Rattle.broker_types.specs.Words.{by_order, bytes_eq-Decides, cases_lt, ChainsEnd, change, codes, cond, Consumes}
pub use Rattle.broker_types.specs.Words.{Contains-append_left, Contains-append_right, Contains-permutation, credential}
pub use Rattle.broker_types.specs.Words.{decimal, digit_value, digits_decimal, digits_value, digits_value-decimal}
pub use Rattle.broker_types.specs.Words.{digits_value-lt, drop, drop-append_seam, drop-cons, drop_waiting, empty}
pub use Rattle.broker_types.specs.Words.{end_spent, ends_within, EndsOk, engine_name, entries, entries_sorted}
pub use Rattle.broker_types.specs.Words.{eq_by_cmp, eq_by_cmp_equiv, eqb-true, eqb→eq, Equal, Err, Evolves, exact_pairs}
pub use Rattle.broker_types.specs.Words.{exact_unsigned, false, false_from_ne_true, false≢true, filter, filter_passes}
pub use Rattle.broker_types.specs.Words.{find, find-where_key, FinMap, first_broker, first_where, Forms, from_entries}
pub use Rattle.broker_types.specs.Words.{from_sorted, get, get-empty, get-entries, get-from_entries, get-insert}
pub use Rattle.broker_types.specs.Words.{get-remove, get_or, get_or-append_seam, get_or-drop, Global, Greater}
pub use Rattle.broker_types.specs.Words.{greatest_moment, greatest_version, identifier_at, IfErr, IfOk, IfOk-weaker}
pub use Rattle.broker_types.specs.Words.{inl, inr, is_alive, is_ascending, is_ascii_digit, is_eq, is_eq-slice_cmp}
pub use Rattle.broker_types.specs.Words.{is_ge, is_le, is_lt, is_mount_name, is_name, is_none, is_path, is_path_byte}
pub use Rattle.broker_types.specs.Words.{is_segment, is_some, is_sorted, is_sorted-where_key, is_spent, is_under}
pub use Rattle.broker_types.specs.Words.{is_utf8-from_IsUtf8, IsAntisymmetric, IsAscii-from_all, IsCustomPair}
pub use Rattle.broker_types.specs.Words.{IsDistinct-IsPermutation, IsDistinct-keys_filter, IsEnd, IsIdentifier}
pub use Rattle.broker_types.specs.Words.{IsMemoryOrStorage, IsMoment, IsNew, IsNumeral, IsNumeralModel, IsObjectText}
pub use Rattle.broker_types.specs.Words.{IsPathText, IsPermutation-map, IsSecretName, IsShortText, IsSoundKey}
pub use Rattle.broker_types.specs.Words.{IsSoundLease, IsSoundMount, IsSoundPolicy, IsSoundRole, IsSoundToken}
pub use Rattle.broker_types.specs.Words.{IsSoundVersion, IsSoundWaiting, IsTakenOut, IsTokenText, IsTotalOrder, IsTrue}
pub use Rattle.broker_types.specs.Words.{IsUsed, IsUtf8, IsUtf8-from_ascii, IsUtf8-from_is_utf8, keep, Key, keys, kv}
pub use Rattle.broker_types.specs.Words.{le-ltb, le-zero, le_refl, le_trans, Lease, lease, lease_identifier, lease_of}
pub use Rattle.broker_types.specs.Words.{leb-true, len, len-empty, len-entries, length, length-append}
pub use Rattle.broker_types.specs.Words.{length-decimal-le, length-drop, length-map, length-replicate, length-take}
pub use Rattle.broker_types.specs.Words.{length-take-le, Less, lineage, List, list_all, list_all-append, list_any}
pub use Rattle.broker_types.specs.Words.{list_any_at, lit<, longest_duration, longest_ttl, lookup, lt-ltb, ltb-true}
pub use Rattle.broker_types.specs.Words.{Map, map, map_more, map_values, match_ordering, min, min-le_left, min-le_right}
pub use Rattle.broker_types.specs.Words.{most_custom_metadata, Mount, nat_cmp, nat_cmp-IsAntisymmetric, nat_cmp_is}
pub use Rattle.broker_types.specs.Words.{nat_cmp_total, nat_eq, nat_le, nat_list_cmp_total, nat_lt, nat_tests}
pub use Rattle.broker_types.specs.Words.{no_methods, None, none-some, not, not-true, numerals_by_fold, Ok, on_total}
pub use Rattle.broker_types.specs.Words.{one_less, OnePlaceEach, Option, option_and_then, option_map, option_map_or}
pub use Rattle.broker_types.specs.Words.{or-false, or_cases, or_parts, or_right, Ordering, ordering_reverse}
pub use Rattle.broker_types.specs.Words.{ordering_then, OriginIsGone, orphaned_by, outlasts, ParentsExist, parse_gives}
pub use Rattle.broker_types.specs.Words.{ParsesUnsigned, Place, position_or_len, prefix_len, put, refl, remove}
pub use Rattle.broker_types.specs.Words.{Response, Result, revoke, revoke_orphan, Role, root_token, same_Some, segments}
pub use Rattle.broker_types.specs.Words.{set, slice_cmp, slice_cmp-IsAntisymmetric, slice_get, slice_index}
pub use Rattle.broker_types.specs.Words.{slice_index_or, slice_range, slice_split, Some, some_or, Sound}
pub use Rattle.broker_types.specs.Words.{SoundIdentifiers, SoundMounts, SoundPolicies, SoundRoles, SoundSecrets}
pub use Rattle.broker_types.specs.Words.{SoundTokens, SoundWaiting, spend, starts_with, String, string_bytes}
pub use Rattle.broker_types.specs.Words.{strip_suffix_char, subst, suc, suc-le-suc, sym, T, take, take-append-drop}
pub use Rattle.broker_types.specs.Words.{take-append_seam, take-suc, take_all, take_more, tells_all_ascii_digits, Text}
pub use Rattle.broker_types.specs.Words.{text_cmp, then_total, tied_itself, time_text, Token, token, token_identifier}
pub use Rattle.broker_types.specs.Words.{token_text, Tokens, true, true≢false, unless, Unspent, unwrap_or, use_up}
pub use Rattle.broker_types.specs.Words.{Version, Waiting, waiting_ends, with_live_leases, with_values, without}
pub use Rattle.broker_types.specs.Words.{without_leading_plus, wrapping_accessor, wrapping_token, YieldsList-end}
pub use Rattle.broker_types.specs.Words.{YieldsList-from_str_split, zero-le}
unfoldable pub use Rattle.broker_types.specs.Words.{default_policy, is_utf8, IsDistinct, same}
-- types of the crates below, and their variants
pub use Rattle.broker_types.specs.declared.ask.Ask.{Ask}
pub use Rattle.broker_types.specs.declared.ask.Verb.{Verb}
pub use Rattle.broker_types.specs.declared.ask.Verb.TheVariants.{Delete, Get, Write}
pub use Rattle.broker_types.specs.declared.fault.Fault.{Fault}
pub use Rattle.broker_types.specs.declared.fault.Fault.TheVariants.{BadStart, Damaged, Memory, Storage}
pub use Rattle.broker_types.specs.declared.refusal.Refusal.{Refusal}
pub use Rattle.broker_types.specs.declared.reply.Reply.{Reply}
pub use Rattle.broker_types.specs.declared.request_error.RequestError.{RequestError}
pub use Rattle.broker_types.specs.declared.request_error.RequestError.TheVariants.{Refused}
pub use Rattle.broker_types.specs.declared.status.Methods.{Methods}
pub use Rattle.broker_types.specs.declared.words.Words.{Words}
-- types of this crate, for its proofs alone
pub use Rattle.records.specs.declared.kind.Kind.{Kind}
pub use Rattle.records.specs.declared.row.Row.{Row}
-- definitions
pub use Rattle.records.specs.Accessors.{accessor_in, is_told}
pub use Rattle.records.specs.Ascending.{ascends_after}
pub use Rattle.records.specs.Calls.{IsCall, IsReadFault}
pub use Rattle.records.specs.Children.{AreNames, below, child, children, children_in_order, folder, has, is_text}
pub use Rattle.records.specs.Children.{keys_under, member, past, push_each, push_once, set_of}
pub use Rattle.records.specs.DueRows.{AreDue, due_cmp, DueRowsHaveOneOrder, is_due, rows_due}
pub use Rattle.records.specs.Engines.{engine_of}
pub use Rattle.records.specs.Fields.{Finds, IsGivenUp, ReadsField, ReadsRow}
pub use Rattle.records.specs.Kept.{IsHonestStore, Kept}
pub use Rattle.records.specs.KeyEntry.{key_entry, KeyEntry, secret_in}
pub use Rattle.records.specs.KeyPlaces.{is_met, rank}
pub use Rattle.records.specs.Kind.{is_of_kind, key_cmp, kind_number, RowKey}
pub use Rattle.records.specs.Parts.{KeepsOthers, of_cubbyholes, of_leases, of_mounts, of_policies, of_roles, of_secrets}
pub use Rattle.records.specs.Parts.{of_tokens, of_tokens_and_theirs, of_used, of_waiting, Part, Tells}
pub use Rattle.records.specs.Ranges.{IsKeyInRange, IsLeaseInRange, IsMountInRange, IsOldKey, IsRoleInRange}
pub use Rattle.records.specs.Ranges.{IsTokenInRange, IsVersionInRange, IsWaitingInRange}
pub use Rattle.records.specs.RowForms.{accessor_row, clock_row, credential_row, cubby_row, entry_row, fields_row}
pub use Rattle.records.specs.RowForms.{holder_number, key_entry_row, key_row, lease_row, mount_row, old_key_row}
pub use Rattle.records.specs.RowForms.{policy_row, role_row, row_in, token_row, used_row, version_row, waiting_row}
pub use Rattle.records.specs.RowReaders.{IsListOf, IsRowOf, IsSomeIn, IsWide, Reads, ReadsWithMemory}
pub use Rattle.records.specs.Rows.{credential_is, digits_after, has_lease, has_slash, lease_of_credential, object_row}
pub use Rattle.records.specs.Rows.{or_else, padded, token_len, version_at, version_key, version_of_digits}
pub use Rattle.records.specs.Rows.{version_row_of}
unfoldable pub use Rattle.records.specs.Rows.{rows_of}
pub use Rattle.records.specs.Spelling.{items, listed, long_text, optional_field, text}
unfoldable pub use Rattle.records.specs.Spelling.{count, number}
pub use Rattle.records.specs.Splits.{lacks, line_feed, slash, split_once, split_step}
pub use Rattle.records.specs.Table.{has_prefix, is_at, Table, table, table_of, unless_owned, with_row, without_owned}
pub use Rattle.records.specs.Table.{without_row, without_under}
pub use Rattle.records.specs.TokenEntry.{IsMeta, IsShortPair, parent_of_owner, token_entry, TokenEntry}
pub use Rattle.records.specs.Transaction.{GoesOn, is_storage, IsHonest, Rows, rows_from, rows_in, rows_owned}
pub use Rattle.records.specs.Transaction.{rows_under, rows_upto, Seen}
pub use Rattle.records.specs.Upgraded.{AreOfEither, ArePlain, AreSteps, AreUpgraded, IsPlain, IsStep, IsUpgraded}
pub use Rattle.records.specs.Upgraded.{old_rows_of}
pub use Rattle.records.specs.VersionKeys.{DigitsAreInOrder, DigitsTellTheVersion, NamesAreSplitOff}
pub use Rattle.records.specs.VersionKeys.{OnlyDigitsTellAVersion}
-- laws
pub use Rattle.records.specs.AccessorLaws.{response_tells, token_tells}
pub use Rattle.records.specs.CallLaws.{decode_fault, decode_then, each_fault, fails_alike, fault_then, goes_further}
pub use Rattle.records.specs.CallLaws.{honest_before, not_damaged, on_both, on_ok, read_fault}
pub use Rattle.records.specs.ConversionLaws.{EndsInTime, HasNone, IsConversion, key_converts, KeyFields, lease_converts}
pub use Rattle.records.specs.ConversionLaws.{lease_of_fields, rows_apart, same_row, version_converts, VersionFields}
pub use Rattle.records.specs.ConversionLaws.{waiting_converts, WaitingFields}
pub use Rattle.records.specs.CubbyKeyLaws.{key_has_slash, key_path, key_token, length-token}
pub use Rattle.records.specs.DigitLaws.{digits_after-padded, digits_are, length-padded, padded_digits}
pub use Rattle.records.specs.DigitLaws.{version_of_digits-padded}
pub use Rattle.records.specs.DueLaws.{due_each, due_once, due_whole}
pub use Rattle.records.specs.EntryLaws.{Contains-filter, found_in, in_found, passing_each, passing_once, passing_whole}
pub use Rattle.records.specs.EntryLaws.{texts_once}
pub use Rattle.records.specs.EntryMapLaws.{each_listed, few_listed, listed_entries}
pub use Rattle.records.specs.HasLaws.{any_found, any_from, has_by_order}
pub use Rattle.records.specs.KeyLaws.{key_cmp_exact, key_cmp_total, kind_of, kind_of-number, same_kind}
pub use Rattle.records.specs.ListedMapLaws.{find-listed, listed-sorted, named, names_are}
pub use Rattle.records.specs.ListingLaws.{rows_under-listing}
pub use Rattle.records.specs.PageLaws.{first_sorted, just_above, last_got, last_of, none_low, not_below_none}
pub use Rattle.records.specs.PageLaws.{page_finds}
pub use Rattle.records.specs.PartLaws.{AgreeOutside, by_token_kind, mount_rows}
pub use Rattle.records.specs.PlaceLaws.{insert_put, met_bound, rank_bound, set_put}
pub use Rattle.records.specs.PrefixLaws.{after_prefix, begins_with, begun}
pub use Rattle.records.specs.RangeLaws.{key_in_range, lease_in_range, role_in_range, token_in_range, version_in_range}
pub use Rattle.records.specs.RangeLaws.{waiting_in_range}
pub use Rattle.records.specs.RowLaws.{cubby_row-injective, entry_row-injective, key_entry_row-injective}
pub use Rattle.records.specs.RowLaws.{lease_row-injective, policy_row-injective, same_rows, version_row-injective}
pub use Rattle.records.specs.RowLaws.{waiting_row-injective}
pub use Rattle.records.specs.SecretNameLaws.{name_lacks}
pub use Rattle.records.specs.SpellingLaws.{count_word, flag_free, free_by, IsPrefixFree, IsWay, IsWord, meta_way}
pub use Rattle.records.specs.SpellingLaws.{moment_free, moment_way, number_free, number_word, pair_free, policies_way}
pub use Rattle.records.specs.SpellingLaws.{text_free, up_to_free, up_to_way, word_free}
pub use Rattle.records.specs.SplitLaws.{eqb_self, lacking_split, split-lacking}
pub use Rattle.records.specs.TableLaws.{chosen, table_of-injective, table_of-insert, table_of-remove, with_row_keeps}
pub use Rattle.records.specs.TokenRowLaws.{Fields, token_converts}
pub use Rattle.records.specs.UnderLaws.{table_of-without_under, without_listed}
pub use Rattle.records.specs.UpgradedLaws.{joined, new_form, no_row, one_table, tables_twice}
pub use Rattle.records.specs.ValueLaws.{mapped_unseen, none_of, ok_inj, then_unseen, unseen}
