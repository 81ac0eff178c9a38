-- What the reading of a reply gives (this project's definition).
use Rattle.std.specs.Prelude.{◌≡◌, ◌⊎◌, ◌<◌, ◌≤◌, ◌++◌, ℕ, Bool, IsTrue, List, Option, Some, length, take}
use Rattle.broker_types.specs.Words.{Consumes}
use Rattle.httparse.specs.Grammar.{ResponseHead, ReadsResponse, print_response}
use Rattle.broker_types.specs.declared.fault.Fault.TheVariants.{Memory}
use Rattle.api_client.specs.Replies.{longest_reply_head, most_fields, BeginsWithReply}
use Rattle.api_client.specs.ReplyHeads.{BeginsWithHead}
use Rattle.api_client.specs.declared.reply.Reply.{Reply}
use Rattle.api_client.specs.declared.reply.ReplyError.{ReplyError}
use Rattle.api_client.specs.declared.reply.ReplyError.TheVariants.{BadReply, Fault}
use Rattle.api_client.specs.declared.reply_head.ReplyHead.{ReplyHead}

-- The error is that memory ran out; or it is a bad reply, since a read failed or for this reason.
abbrev pub IsReplyError : Bool → Type 0 → ReplyError → Type 0
IsReplyError read_failed Reason BadReply = IsTrue read_failed ⊎ Reason
IsReplyError read_failed Reason (Fault fault) = fault ≡ Memory

-- if it is known what is left to read, it begins with no reply
abbrev pub HasNoReply : Option (List ℕ) → Type 0
HasNoReply left = (input : List ℕ) → left ≡ Some input → (reply : Reply) → ¬ (BeginsWithReply input reply)

-- if it is known what is left to read, it begins with no head of a reply
abbrev pub HasNoReplyHead : Option (List ℕ) → Type 0
HasNoReplyHead left =
    (input : List ℕ) → left ≡ Some input → (head : ResponseHead) (rest : List ℕ) → ReadsResponse input head rest
    → length (print_response head) ≤ longest_reply_head → ¬ (length head.fields ≤ most_fields)

-- if it is known what is left to read, a body of this length, which begins so, does not end there
abbrev pub EndsInBody : ℕ → List ℕ → Option (List ℕ) → Type 0
EndsInBody len begun left = (input : List ℕ) → left ≡ Some input → length (begun ++ input) < len

-- some bytes were read, not more than there was room for, and they were added at the end
pub record ReadsSome (left_before left : Option (List ℕ)) (room : ℕ) (old new : List ℕ) : Type 0 where
  pub more : List ℕ
  pub consumed : Consumes left_before left more
  pub some : 0 < length more
  pub fits : length more ≤ room
  pub added : new ≡ old ++ more

-- bytes were read that begin with this head
pub record ReadsHead (left_before left : Option (List ℕ)) (head : ReplyHead) (bytes : List ℕ) : Type 0 where
  pub consumed : Consumes left_before left bytes
  pub begins : BeginsWithHead bytes head
  pub short : head.len ≤ longest_reply_head

-- the bytes that had begun, and those that were read, begin with a body of this length
pub record ReadsBody (left_before left : Option (List ℕ)) (len : ℕ) (begun body : List ℕ) : Type 0 where
  pub more : List ℕ
  pub consumed : Consumes left_before left more
  pub front : body ≡ take len (begun ++ more)
  pub whole : length body ≡ len
