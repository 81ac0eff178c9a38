use Rattle.std.proofs.Common.{◌≡◌, ◌++◌, ◌∙◌, List, ℕ, ap, sym, subst}
use Rattle.broker_model.specs.Words.{response_of}
use Rattle.http_layer.specs.Words.{IsReply}
use Rattle.hub.proofs.front.Served.reply.Goals as goal

pub returns-clause-reply : goal.returns-clause-reply
returns-clause-reply c =
    let reply = c.reply_bytes.result in
    let same : c.append_to.new.room.items ≡ reply =
    c.in-Ok.ensures.ok ∙ ap (λ (l : List ℕ). l ++ reply) c.into_vec-bytes.ensures.empty in
    subst (IsReply (response_of c.args.answer) c.args.moment c.args.closes) (sym same) c.reply_bytes.ensures.reply
