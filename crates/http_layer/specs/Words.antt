-- The names that specs and proofs cite most, passed on from one place. Declares nothing.
-- types of the crates below, and their variants
pub use Rattle.broker_types.specs.declared.status.Status.{Status}
-- types of this crate, for its proofs alone
pub use Rattle.http_layer.specs.declared.fields.Named.{Named}
pub use Rattle.http_layer.specs.declared.fields.Named.TheVariants.{Several}
-- definitions
pub use Rattle.http_layer.specs.Asked.{bad_request, client_token, HasNoEscape, path_asked, path_read, token_asked}
pub use Rattle.http_layer.specs.Asked.{value_asked, verb_asked, without_spaces, wrap_ttl_asked, wrap_ttl_read}
unfoldable pub use Rattle.http_layer.specs.Asked.{asked}
pub use Rattle.http_layer.specs.Closing.{closes, is_close, is_closing, lists_close}
pub use Rattle.http_layer.specs.Cutting.{front_of, IsNeed}
pub use Rattle.http_layer.specs.Front.{body_length, content_length, Front, front_of_body, HasEmptyLineAt, HasNoHeadEnd}
pub use Rattle.http_layer.specs.Front.{HeadEnds, is_line_byte, is_number, is_too_long, IsFront, longest_head, malformed}
pub use Rattle.http_layer.specs.Front.{may_have_hosts, need, read, refused_with, too_long, unended, whole, window}
pub use Rattle.http_layer.specs.HeadParts.{HeadField, HeadParts, is_named, IsHead, parts_of, same_in_any_case}
pub use Rattle.http_layer.specs.HeadParts.{values_named}
pub use Rattle.http_layer.specs.ListedRefusals.{IsAskRefusal, IsListedRefusal}
pub use Rattle.http_layer.specs.Named.{AreNamed}
pub use Rattle.http_layer.specs.Printed.{CanBeSent, printed_head}
pub use Rattle.http_layer.specs.Query.{is_list_part, is_query_mark, is_version_part, target_path, target_query}
pub use Rattle.http_layer.specs.Refusing.{◌>>=◌, ask_refused, front_refused, RefusalParts}
pub use Rattle.http_layer.specs.Reply.{allow_line, body_lines, cache_line, comma_joined, connection_line, crlf}
pub use Rattle.http_layer.specs.Reply.{date_line, IsReply, method_names, phrase_of, reply_body, reply_head, status_line}
-- laws
pub use Rattle.http_layer.specs.FrontLaws.{IsFront-append, IsFront-unique, whole_short, whole_within}
pub use Rattle.http_layer.specs.HeadEndLaws.{HasEmptyLineAt-fits, HasNoHeadEnd-nil, HeadEnds-append, HeadEnds-fits}
pub use Rattle.http_layer.specs.HeadEndLaws.{HeadEnds-some, HeadEnds-unique, slice-append}
pub use Rattle.http_layer.specs.HeadPartsLaws.{values_named-append}
pub use Rattle.http_layer.specs.Laws.{PrintedLengthIsRead, PrintedRequestIsFront}
pub use Rattle.http_layer.specs.ListedRefusalLaws.{ask_refuses, front_refuses}
pub use Rattle.http_layer.specs.ReplyLaws.{IsReply-not_empty, IsReply-unique}
