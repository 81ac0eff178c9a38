-- The names that specs and proofs cite most, passed on from one place. Declares nothing.
-- of std and the ported crates
pub use Rattle.http.specs.StatusCode.{code_digits}
pub use Rattle.httparse.proofs.GrammarLemmas.{ReadsResponse-append, response_unique}
pub use Rattle.httparse.proofs.TrimLemmas.{AllPass-reverse, trim_ows_space}
pub use Rattle.httparse.specs.Grammar.{crlf, Field, HasNoResponse, is_ows, is_value_byte, IsField, IsResponseHead}
pub use Rattle.httparse.specs.Grammar.{print_field, ReadsResponse, ResponseHead, skip_ows, trim_ows}
unfoldable pub use Rattle.httparse.specs.Grammar.{is_token_byte, print_response}
pub use Rattle.httparse.specs.Spans.{header_bytes, name_and_value}
pub use Rattle.httparse.specs.declared.spans.HeaderSpan.{HeaderSpan}
pub use Rattle.httpdate.specs.Calendar.{days_in_month, is_leap_year}
pub use Rattle.httpdate.specs.Date.{date_text}
pub use Rattle.httpdate.specs.declared.date.HttpDate.{HttpDate}
pub use Rattle.percent_encoding.specs.AsciiSet.{contains}
unfoldable pub use Rattle.percent_encoding.specs.AsciiSet.{should_percent_encode}
pub use Rattle.percent_encoding.specs.Iter.{encoded_text}
pub use Rattle.percent_encoding.specs.Percent.{encode_byte, percent_decode}
unfoldable pub use Rattle.percent_encoding.specs.Percent.{percent_encode, percent_encode_byte}
pub use Rattle.percent_encoding.specs.declared.ascii_set.AsciiSet.{AsciiSet}
pub use Rattle.percent_encoding.specs.declared.ascii_set.TheConstants.{NON_ALPHANUMERIC}
pub use Rattle.serde_json.specs.Data.{Data}
pub use Rattle.serde_json.specs.Read.{read}
pub use Rattle.serde_json.specs.View.{view}
pub use Rattle.serde_json.specs.Written.{compact_text}
pub use Rattle.std.proofs.Common.{Bor, fold, if◌then◌else◌, IsSomeAnd, zero, ◌%◌, ◌&&◌, ◌*◌, ◌++◌, ◌+◌, ◌-◌, ◌/◌, ◌<◌}
pub use Rattle.std.proofs.Common.{◌==◌, ◌^◌, ◌||◌, ◌∷◌, ◌≡◌, ◌≢◌, ◌≤◌}
pub use Rattle.std.proofs.lemmas.List.Splits.{slice_split_none}
pub use Rattle.std.proofs.lemmas.List.Sums.{fold-append}
pub use Rattle.std.specs.List.{find}
-- of the crates below
pub use Rattle.broker_types.specs.DecimalLaws.{all_digits, digits_all}
pub use Rattle.broker_types.specs.PathLaws.{slash_not_last}
pub use Rattle.broker_types.specs.Words.{[], All, All-append, All-cons, All-from_get_or, All-head, All-nil, All-tail}
pub use Rattle.broker_types.specs.Words.{All-weaker, AllDigits, AllPass-from_list_all, and_parts, ap, append-nil}
pub use Rattle.broker_types.specs.Words.{append_assoc, ap₂, arith, Bool, codes, cond, Consumes, Consumes-trans, decimal}
pub use Rattle.broker_types.specs.Words.{decimal_is_IsNumeral, digit_value, digits_value, drop, Err, false, filter}
pub use Rattle.broker_types.specs.Words.{flat_map, flat_map-append, IfSome, inl, inr, is_ascii_digit, is_path}
pub use Rattle.broker_types.specs.Words.{IsAscii-from_all, IsNumeral, IsUtf8, IsUtf8-from_ascii, leb-true, length}
pub use Rattle.broker_types.specs.Words.{length-append, length-decimal-le, List, list_all, lit<, ltb-true, map}
pub use Rattle.broker_types.specs.Words.{map-append, nat_le, nat_lt, nat_tests, None, not, Ok, Option, option_map, refl}
pub use Rattle.broker_types.specs.Words.{Result, reverse, same_Some, Some, subst, suc, sym, take, take-append-drop}
pub use Rattle.broker_types.specs.Words.{take-append_seam, take_all, Text, true, unwrap_or, without_leading_plus}
pub use Rattle.broker_types.specs.Words.{without_slash, YieldsList-end, YieldsList-from_str_split, ℕ, ◌∙◌}
pub use Rattle.broker_types.specs.declared.ask.Verb.{Verb}
pub use Rattle.broker_types.specs.declared.refusal.Reason.{Reason}
pub use Rattle.broker_types.specs.declared.status.Methods.{Methods}
pub use Rattle.http_layer.specs.Query.{lists, version_asked}
pub use Rattle.http_layer.specs.Words.{HeadField, is_named, is_number, printed_head, PrintedLengthIsRead}
pub use Rattle.http_layer.specs.Words.{same_in_any_case, values_named, values_named-append}
-- definitions
pub use Rattle.api_client.specs.Asking.{Asks, IsOptionalField, IsPathText, IsSendable, verb_of, version_text}
pub use Rattle.api_client.specs.Commands.{is_field_text, is_short_text, is_visible, longest_argument}
pub use Rattle.api_client.specs.Escaping.{escaped_byte, is_plain}
unfoldable pub use Rattle.api_client.specs.Escaping.{escaped}
pub use Rattle.api_client.specs.Fields.{member_in, value_of}
unfoldable pub use Rattle.api_client.specs.Fields.{at_path}
pub use Rattle.api_client.specs.Laws.{ReplyIsUnique, WrittenReplyIsRead}
pub use Rattle.api_client.specs.Numbers.{number_told}
pub use Rattle.api_client.specs.Replies.{BeginsWithReply, first_length, length_told, longest_reply_body}
pub use Rattle.api_client.specs.Replies.{longest_reply_head, most_fields, reply_length}
pub use Rattle.api_client.specs.ReplyHeads.{BeginsWithHead}
pub use Rattle.api_client.specs.Requests.{body_of, method_of, path_of, query_line, version_of}
unfoldable pub use Rattle.api_client.specs.Requests.{sent}
pub use Rattle.api_client.specs.declared.command.Command.{Command}
pub use Rattle.api_client.specs.declared.command.Request.{Request}
pub use Rattle.api_client.specs.declared.reply.Reply.{Reply}
pub use Rattle.api_client.specs.declared.reply.ReplyError.{ReplyError}
pub use Rattle.api_client.specs.declared.reply.ReplyError.TheVariants.{BadReply, Fault}
pub use Rattle.api_client.specs.declared.reply_head.ReplyHead.{ReplyHead}
