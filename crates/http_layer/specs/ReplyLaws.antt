-- Laws of replies: a response at a moment has one, which is not empty.
use Rattle.std.proofs.Common.{◌≡◌, ◌<◌, ◌++◌, ℕ, List, length, sym, ap, ◌∙◌, subst, zero-lt-suc}
use Rattle.httpdate.specs.declared.parts.Parts.{Parts}
use Rattle.httpdate.specs.Text.{imf_fixdate}
use Rattle.httpdate.proofs.Theorems.{unix_secs_injective}
use Rattle.http_layer.specs.Laws.{ReplyIsUnique, ReplyIsNotEmpty}
use Rattle.http_layer.specs.Reply.{reply_head, reply_body}

-- a response at a moment has one reply, since a second has one date
pub IsReply-unique : ReplyIsUnique
IsReply-unique r moment close x y a b =
    let same : a.date.parts ≡ b.date.parts = unix_secs_injective a.date b.date (a.at_moment ∙ sym b.at_moment) in
    a.bytes_are ∙ ap (λ (p : Parts). reply_head r (imf_fixdate p) close ++ reply_body r.status r.text) same
    ∙ sym b.bytes_are

-- a reply has at least one byte
pub IsReply-not_empty : ReplyIsNotEmpty
IsReply-not_empty r moment close bytes a = subst (λ (l : List ℕ). 0 < length l) (sym a.bytes_are) (zero-lt-suc _)
