-- Laws of the definitions (this project's). Each is a clause of a function of `src/laws.rt` that does nothing.
use Rattle.std.specs.Prelude.{◌≡◌, ◌≤◌, ◌++◌, ℕ, Bool, List, length}
use Rattle.broker_types.specs.Words.{Response, status_code}
use Rattle.http_layer.specs.Words.{IsReply, reply_body}
use Rattle.api_client.specs.Replies.{BeginsWithReply, longest_reply_body}
use Rattle.api_client.specs.declared.reply.Reply.{Reply}

-- bytes begin with at most one reply
abbrev pub ReplyIsUnique : Type 0
ReplyIsUnique = (bytes : List ℕ) (a b : Reply) → BeginsWithReply bytes a → BeginsWithReply bytes b → a ≡ b

-- the reply that says what the response says
abbrev pub reply_with : Response → Reply
reply_with r = record { status = status_code r.status; body = reply_body r.status r.text }

-- The bytes that a server writes for a response begin with the reply that says the same, whatever follows them.
abbrev pub WrittenReplyIsRead : Type 0
WrittenReplyIsRead =
    (r : Response) (moment : ℕ) (close : Bool) (bytes after : List ℕ) → IsReply r moment close bytes
    → length r.text ≤ longest_reply_body → BeginsWithReply (bytes ++ after) (reply_with r)
