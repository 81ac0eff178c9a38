use Rattle.std.proofs.Common.{◌++◌, ◌∙◌, List, ℕ, ap, codes}
use Rattle.http.specs.StatusCode.{code_digits}
use Rattle.broker_types.specs.Words.{status_code}
use Rattle.http_layer.specs.Words.{phrase_of, crlf}
use Rattle.http_layer.proofs.ReplyLemmas.{appended_5}
use Rattle.http_layer.proofs.reply.add_status_line.Goals as goal

pub returns-clause-line : goal.returns-clause-line
returns-clause-line c =
    let onto = λ (h : List ℕ) (l : List ℕ). h ++ l in
    let code = c.as_bytes.ensures.value ∙ c.as_str.ensures ∙ ap code_digits c.code_of-code.ensures in
    appended_5 c.args.head.now (codes "HTTP/1.1 ") (code_digits (status_code c.args.status)) (codes " ")
    (phrase_of c.args.status) crlf
    _ _ _ _ _ c.add.ensures (c.add-2.ensures ∙ ap (onto c.add.new.self) code) c.add-3.ensures
    (c.add-4.ensures ∙ ap (onto c.add-3.new.self) c.phrase.ensures.text) c.add-5.ensures
