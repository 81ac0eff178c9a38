use Rattle.std.proofs.Common.{◌++◌, ◌∙◌, List, ℕ, ap, length}
use Rattle.httpdate.specs.Date.{date_text}
use Rattle.http_layer.specs.Words.{crlf, cache_line, status_line, date_line, allow_line, connection_line, body_lines}
use Rattle.http_layer.specs.Words.{reply_body, reply_head}
use Rattle.broker_types.specs.Words.{response_of}
use Rattle.http_layer.proofs.ReplyLemmas.{appended_7}
use Rattle.http_layer.proofs.reply.reply_bytes.Goals as goal

pub returns-clause-reply : goal.returns-clause-reply
returns-clause-reply c =
    let a = c.args.answer.now in
    let text = c.as_bytes-text.ensures.value ∙ c.as_str.ensures in
    let date = date_text c.date_of.result in
    let head =
    appended_7 (status_line a.status) (date_line date) (allow_line a.status a.methods) cache_line
    (connection_line c.args.close)
    (body_lines a.status (length a.text)) crlf _ _ _ _ _ _ _ _
    c.new-head.ensures c.add_status_line.ensures.line c.add_date_line.ensures.line c.add_allow_line.ensures.line
    c.add.ensures
    c.add_connection_line.ensures.line
    (c.add_body_lines.ensures.line
    ∙ ap (λ (l : List ℕ). c.add_connection_line.new.head ++ body_lines a.status (length l)) text) c.add-2.ensures in
    record {
      date = c.date_of.result;
      at_moment = c.date_of.ensures;
      bytes_are =
          ap (λ (l : List ℕ). l ++ c.reply_body.result.now) head
          ∙ ap (λ (l : List ℕ). reply_head (response_of a) date c.args.close ++ l)
          (c.reply_body.ensures ∙ ap (reply_body a.status) text);
    }
