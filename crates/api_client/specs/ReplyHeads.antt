-- What the first bytes of a reply show of its head (this project's definition).
use Rattle.std.specs.Prelude.{◌≡◌, ◌≤◌, ℕ, List, length, map, drop}
use Rattle.httparse.specs.Grammar.{ResponseHead, ReadsResponse, print_response, status_code, HasNoResponse}
use Rattle.httparse.specs.Spans.{name_and_value, ResponseOverflows}
use Rattle.api_client.specs.Replies.{most_fields, reply_length}
use Rattle.api_client.specs.declared.reply_head.ReplyHead.{ReplyHead}
use Rattle.api_client.specs.declared.reply_head.HeadRead.{HeadRead}
use Rattle.api_client.specs.declared.reply_head.HeadRead.TheVariants.{Whole, Unended, Refused}

-- the bytes begin with a head of this length, this status and this length of the body
pub record BeginsWithHead (bytes : List ℕ) (h : ReplyHead) : Type 0 where
  pub head : ResponseHead
  pub reads : ReadsResponse bytes head (drop h.len bytes)
  pub few : length head.fields ≤ most_fields
  pub len : h.len ≡ length (print_response head)
  pub within : h.len ≤ length bytes
  pub status : h.status ≡ status_code head
  pub told : h.body_len ≡ reply_length (map name_and_value head.fields)

-- the bytes begin with a whole head; no prefix of them is one; or whatever follows, none with so few fields is one
abbrev pub IsHeadRead : List ℕ → HeadRead → Type 0
IsHeadRead bytes (Whole head) = BeginsWithHead bytes head
IsHeadRead bytes Unended = HasNoResponse bytes
IsHeadRead bytes Refused = ResponseOverflows most_fields bytes
