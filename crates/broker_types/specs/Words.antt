-- The names that specs and proofs cite most, passed on from one place. Declares nothing.
-- of std
pub use Rattle.std.proofs.Common.{[], ℕ, ⊎_elim, ◌∙◌, add-le-add, add-lt-add_of_le_of_lt, add-one, add-sub_of_le}
pub use Rattle.std.proofs.Common.{add-zero, ap, append-nil, append_assoc, ap₂, arith, cond, decimal, drop, drop_at}
pub use Rattle.std.proofs.Common.{eqb→eq, Err, get_or, Global, IfErr, IfSome, inl, inr, IsTrue, IsUtf8, le-add_left}
pub use Rattle.std.proofs.Common.{le-add_right, le_antisymm, le_of_eq, le_of_lt, length, length-append, length-drop}
pub use Rattle.std.proofs.Common.{length-take, List, lit<, lit≤, lt_irrefl, lt_of_lt_of_le, map, MatchResult, min}
pub use Rattle.std.proofs.Common.{nat_le, nat_lt, ne_of_lt, Ok, refl, reverse, set, slice_index, slice_range}
pub use Rattle.std.proofs.Common.{string_bytes, sub-add_cancel, subst, suc, suc-le-suc, sym, take, Vec, zero-le}
pub use Rattle.std.proofs.KnownBytes.{Consumes-trans}
pub use Rattle.std.proofs.Math.Arith.{add-le_cancel_left, le-zero}
pub use Rattle.std.proofs.Math.Bool.{and-false, and-true, or-false}
pub use Rattle.std.proofs.Math.ListN.{drop_of_length-le}
pub use Rattle.std.proofs.Math.Nat.{add-le-add_iff_right, add-sub_cancel_left, le-suc, le_of_suc-le-suc, le_refl}
pub use Rattle.std.proofs.Math.Nat.{le_trans, lt_of_le_of_lt, max-le, min-le_left, min-le_right, mul-le-mul_left}
pub use Rattle.std.proofs.Math.Nat.{not-suc-le-zero, not-suc-le_self, pow-le-pow_right, pow-suc, sub-eq-zero_iff_le}
pub use Rattle.std.proofs.Math.Nat.{sub-le, sub-pos_iff_lt, zero-lt-suc}
pub use Rattle.std.proofs.Math.Seq.{drop-append-add, drop-append_seam, drop-cons, get_or-append_seam, take-add}
pub use Rattle.std.proofs.Math.Seq.{take-append-add, take-append_seam, take-suc}
pub use Rattle.std.proofs.lemmas.Bool.{agree_below, agree_below_at, and_from, and_parts, cases_lt, eqb-false, eqb-true}
pub use Rattle.std.proofs.lemmas.Bool.{false_from_ne_true, false≢true, le-leb, le-ltb, leb-true, lt-ltb, ltb-false}
pub use Rattle.std.proofs.lemmas.Bool.{ltb-true, ne_eqb, not-true, or_cases, or_from, or_parts, or_right, true≢false}
pub use Rattle.std.proofs.lemmas.Bool.Decides.{eqb_tells, nat_tests, same_from_decides}
pub use Rattle.std.proofs.lemmas.Cmp.{on_total, then_total}
pub use Rattle.std.proofs.lemmas.Float.{T_from_true}
pub use Rattle.std.proofs.lemmas.Fmt.{decimal_is_IsNumeral, digits_decimal, digits_value-decimal, IsAscii-from_digits}
pub use Rattle.std.proofs.lemmas.Fmt.{length-decimal-le}
pub use Rattle.std.proofs.lemmas.Grind.{common_steps, flat_map-append}
pub use Rattle.std.proofs.lemmas.Int.{by_lt_z, to_z_pos}
pub use Rattle.std.proofs.lemmas.Int.Digits.{digits_value-lt, digits_value_push}
pub use Rattle.std.proofs.lemmas.Iterator.Consumers.{YieldsList-end}
pub use Rattle.std.proofs.lemmas.Iterator.Search.{any_from_yields_List, find_from_yields_List}
pub use Rattle.std.proofs.lemmas.Iterator.Splits.{YieldsList-from_slice_split, YieldsList-from_str_split}
pub use Rattle.std.proofs.lemmas.List.{append_cancel_left, at_drop_more, drop-append-le, get_or-drop, length-map}
pub use Rattle.std.proofs.lemmas.List.{length-replicate, length-take-le, map-append, map_more, reverse-append}
pub use Rattle.std.proofs.lemmas.List.{reverse-reverse, take-append-drop, take-append-le, take_all, take_min, take_more}
pub use Rattle.std.proofs.lemmas.List.Concat.{flat_map-cons}
pub use Rattle.std.proofs.lemmas.List.Elements.{All-append, All-cons, All-contains_itself, All-drop, All-filter}
pub use Rattle.std.proofs.lemmas.List.Elements.{All-from_get_or, All-from_recursion, All-head, All-nil, All-tail}
pub use Rattle.std.proofs.lemmas.List.Elements.{All-weaker, Contains-append_cases, Contains-append_left}
pub use Rattle.std.proofs.lemmas.List.Elements.{Contains-append_right, Contains-push_cases, filter-append}
pub use Rattle.std.proofs.lemmas.List.Elements.{filter_passes}
pub use Rattle.std.proofs.lemmas.List.Folds.{Any-from_list_any, fold-map, list_all-append, list_any_at}
pub use Rattle.std.proofs.lemmas.List.Folds.{prefix_len-append}
pub use Rattle.std.proofs.lemmas.List.Sorted.{All-permutation, Contains-permutation, IsPermutation-map}
pub use Rattle.std.proofs.lemmas.List.Splits.{length-slice_split}
pub use Rattle.std.proofs.lemmas.List.Sums.{AllPass-from_list_all, count_by-le-length, fold_more, length-filter}
pub use Rattle.std.proofs.lemmas.List.Sums.{prefix_len-le-length, sum_by-cons}
pub use Rattle.std.proofs.lemmas.Map.Keys.{IsDistinct-IsPermutation}
pub use Rattle.std.proofs.lemmas.Map.Lookups.{exact_pairs, exact_unsigned}
pub use Rattle.std.proofs.lemmas.Map.Made.{IsDistinct-keys_filter}
pub use Rattle.std.proofs.lemmas.Map.Steps.{length-le_from_keys}
pub use Rattle.std.proofs.lemmas.Map.Text.{is_eq-slice_cmp}
pub use Rattle.std.proofs.lemmas.Map.Views.{lookup-from_Contains}
pub use Rattle.std.proofs.lemmas.Nat.{be_bytes_4, be_bytes_8, from_be_bytes-to_be_bytes_4, from_be_bytes-to_be_bytes_8}
pub use Rattle.std.proofs.lemmas.Nat.{mod_below}
pub use Rattle.std.proofs.lemmas.Option.{none-some, same_Some}
pub use Rattle.std.proofs.lemmas.Result.{IfOk-weaker}
pub use Rattle.std.proofs.lemmas.Slice.Eq.{bytes_eq-Decides}
pub use Rattle.std.proofs.lemmas.Str.{digit_value_digit, is_utf8-from_IsUtf8, IsUtf8-from_ascii, IsUtf8-from_is_utf8}
pub use Rattle.std.proofs.lemmas.Str.{len_utf8_ascii}
pub use Rattle.std.proofs.lemmas.Str.Ascii.{IsAscii-from_all}
pub use Rattle.std.proofs.lemmas.Str.Parse.{IsNumeralModel, numerals_by_fold, parse_gives, tells_all_ascii_digits}
pub use Rattle.std.proofs.lemmas.Str.Pattern.{drop_at_char, strip_prefix_char, strip_suffix_char}
pub use Rattle.std.specs.BTreeMap.{insert_entry}
pub use Rattle.std.specs.Box.{box_value}
pub use Rattle.std.specs.Char.{digit_char, digit_value, is_ascii, is_ascii_alphanumeric, is_ascii_digit, is_digit}
pub use Rattle.std.specs.Char.{to_ascii_lowercase}
unfoldable pub use Rattle.std.specs.Char.{encode_utf8}
pub use Rattle.std.specs.Cmp.{eq_by_cmp_equiv, IsEquivalence, IsTotalOrder, nat_cmp_is, nat_cmp_total, tied_itself}
pub use Rattle.std.specs.Cmp.Lexicographic.{nat_list_cmp_total, slice_cmp}
pub use Rattle.std.specs.FinMap.{contains_key, entries_sorted, find, FinMap, from_entries, from_sorted, get-empty}
pub use Rattle.std.specs.FinMap.{get-entries, get-from_entries, get-insert, get-remove, is_sorted, IsAntisymmetric}
pub use Rattle.std.specs.FinMap.{len-empty, len-entries, len-insert, nat_cmp-IsAntisymmetric, remove, same_map}
pub use Rattle.std.specs.FinMap.{slice_cmp-IsAntisymmetric}
pub use Rattle.std.specs.FinMap.Entries.{below_all, by_order, find-where_key, is_sorted-where_key}
pub use Rattle.std.specs.Float.{binary64, float_is_finite}
pub use Rattle.std.specs.Int.{byte_at, bytes_high_first, from_be_bytes, IsInRange, to_be_bytes, w128, w32, w64}
pub use Rattle.std.specs.Io.KnownBytes.{Appends, Consumes}
pub use Rattle.std.specs.List.{after_first, AllByRecursion, before_first, flat_map, insert, list_all, list_any}
pub use Rattle.std.specs.List.{position_or_len, prefix_len, slice_index_or, slice_split, starts_with}
unfoldable pub use Rattle.std.specs.List.{IsDistinct}
pub use Rattle.std.specs.Map.{lookup}
pub use Rattle.std.specs.Option.{option_map_or, option_or}
pub use Rattle.std.specs.Ordering.{eq_by_cmp, is_eq, is_ge, is_le, is_lt, match_ordering, nat_cmp, ordering_reverse}
pub use Rattle.std.specs.Ordering.{ordering_then}
pub use Rattle.std.specs.Prelude.{⊤, All, Bool, bytes_eq, codes, false, filter, IfNone, IfOk, is_none, is_some, IsSome}
pub use Rattle.std.specs.Prelude.{nat_eq, None, not, Option, option_and_then, option_map, replicate, Result, slice_get}
pub use Rattle.std.specs.Prelude.{Some, String, sum_by, T, true, unwrap_or}
pub use Rattle.std.specs.Result.{IsOk}
pub use Rattle.std.specs.Str.{all_ascii_digits}
unfoldable pub use Rattle.std.specs.Str.{is_utf8}
pub use Rattle.std.specs.Str.Parse.{AllDigits, digits_value, digits_value_after, IsNumeral, ParsesUnsigned}
pub use Rattle.std.specs.Str.Parse.{without_leading_plus}
pub use Rattle.std.specs.Str.Pattern.{CutsPrefixes, CutsSuffixes, FindsCharPrefix, FindsCharSuffix, IsTrimEndMatches}
pub use Rattle.std.specs.Str.Pattern.{IsTrimStartMatches}
pub use Rattle.std.specs.String.{string_cmp}
pub use Rattle.std.specs.declared.cmp.Ordering.{Ordering}
pub use Rattle.std.specs.declared.cmp.Ordering.TheVariants.{Equal, Greater, Less}
-- definitions
pub use Rattle.broker_types.specs.Answer.{Response, response_of}
pub use Rattle.broker_types.specs.Broker.{at_moment, Broker, engine_name, kv, Mount, revoke, revoke_orphan, Role}
pub use Rattle.broker_types.specs.Broker.{Waiting, waiting_ends}
pub use Rattle.broker_types.specs.Duration.{at_most, duration_of, Group, group_end, group_seconds, group_step}
pub use Rattle.broker_types.specs.Duration.{group_text, groups, hours, IsCount, IsDuration, IsGroup, IsSum}
pub use Rattle.broker_types.specs.Duration.{longest_duration, minutes, seconds, TimeUnit, unit_byte, unit_of}
pub use Rattle.broker_types.specs.Duration.{unit_seconds, whole_groups, with_unit}
pub use Rattle.broker_types.specs.Evolves.{Evolves, HasEnded, IsNew, IsTakenOut, LeaseHasEnded, OriginIsGone}
pub use Rattle.broker_types.specs.Fault.{IsMemoryOrStorage}
pub use Rattle.broker_types.specs.First.{first_broker, root_token, secret_mount}
unfoldable pub use Rattle.broker_types.specs.First.{default_policy}
pub use Rattle.broker_types.specs.Identifier.{id}
pub use Rattle.broker_types.specs.IdentifierPlaces.{accessor, AllUsed, credential, identifier_at, IsUsed, lease}
pub use Rattle.broker_types.specs.IdentifierPlaces.{lease_identifier, lease_of, OnePlaceEach, Place, token}
pub use Rattle.broker_types.specs.IdentifierPlaces.{token_identifier, wrapping_accessor, wrapping_token}
pub use Rattle.broker_types.specs.Limits.{greatest_version, longest_body, longest_custom_name, longest_custom_value}
pub use Rattle.broker_types.specs.Limits.{longest_ttl, most_custom_metadata}
pub use Rattle.broker_types.specs.Lineage.{alive_at, ChainsEnd, climb, ends_within, is_alive, is_under, lineage}
pub use Rattle.broker_types.specs.Lineage.{orphaned_by, outlasts, ParentsExist, with_live_leases, without_descendants}
pub use Rattle.broker_types.specs.Lineage.{without_parent}
pub use Rattle.broker_types.specs.Map.{change, empty, entries, first_where, get, keep, keys, len, Map, put, with_values}
pub use Rattle.broker_types.specs.Map.{without}
unfoldable pub use Rattle.broker_types.specs.Map.{map_values}
pub use Rattle.broker_types.specs.Moment.{greatest_moment}
pub use Rattle.broker_types.specs.Name.{is_mount_name, is_name, is_name_byte}
pub use Rattle.broker_types.specs.Path.{is_path, is_path_byte, is_segment, segments, without_slash}
pub use Rattle.broker_types.specs.Refusal.{cutting_text, errors_body, field_name, reason_opening}
pub use Rattle.broker_types.specs.Refuse.{◌>>=◌, some_or, unless}
pub use Rattle.broker_types.specs.RequestError.{EndsOk, fault_fails, step_fails}
pub use Rattle.broker_types.specs.Secret.{Key, Version}
pub use Rattle.broker_types.specs.Sound.{Forms, is_ascending, IsCustomPair, IsEnd, IsIdentifier, IsMoment, IsObjectText}
pub use Rattle.broker_types.specs.Sound.{IsPathText, IsSecretName, IsShortText, IsSoundKey, IsSoundLease, IsSoundMount}
pub use Rattle.broker_types.specs.Sound.{IsSoundPolicy, IsSoundRole, IsSoundToken, IsSoundVersion, IsSoundWaiting}
pub use Rattle.broker_types.specs.Sound.{IsTokenText, Sound, SoundIdentifiers, SoundMounts, SoundPolicies, SoundRoles}
pub use Rattle.broker_types.specs.Sound.{SoundSecrets, SoundTokens, SoundWaiting, Unspent}
pub use Rattle.broker_types.specs.Spending.{drop_waiting, end_spent, is_spent, one_less, spend}
pub use Rattle.broker_types.specs.Status.{no_methods, status_code}
pub use Rattle.broker_types.specs.Text.{Text, text_cmp}
unfoldable pub use Rattle.broker_types.specs.Text.{same}
pub use Rattle.broker_types.specs.Time.{Day, IsClock, time_text}
unfoldable pub use Rattle.broker_types.specs.Time.{civil, day_from_month, day_from_year}
pub use Rattle.broker_types.specs.Token.{Lease, Token, Tokens}
pub use Rattle.broker_types.specs.TokenText.{token_text}
pub use Rattle.broker_types.specs.Used.{are_new, use_up}
