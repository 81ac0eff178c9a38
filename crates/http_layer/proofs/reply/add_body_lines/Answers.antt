use Rattle.std.proofs.Common.{◌++◌, ◌∙◌, List, ℕ, ap, sym, codes, decimal}
use Rattle.http_layer.specs.Words.{crlf}
use Rattle.http_layer.proofs.ReplyLemmas.{appended_3, body_lines_other}
use Rattle.http_layer.proofs.reply.add_body_lines.Goals as goal

pub returns-in_default-clause-line : goal.returns-in_default-clause-line
returns-in_default-clause-line c =
    let onto = λ (h : List ℕ) (l : List ℕ). h ++ l in
    appended_3 c.args.head.now (codes "Content-Type: application/json" ++ crlf ++ codes "Content-Length: ")
    (decimal c.args.len) crlf
    _ _ _ c.add-in_default.ensures (c.add-in_default-2.ensures
    ∙ ap (onto c.add-in_default.new.self) (c.as_bytes.ensures.value ∙ c.format.ensures.text))
    c.add-in_default-3.ensures
    ∙ ap (onto c.args.head.now)
    (sym (body_lines_other c.args.status c.args.len c.in_default.not-NoContent c.in_default.not-NotImplemented))
