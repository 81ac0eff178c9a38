use Rattle.std.proofs.Common.{◌≡◌, ◌∙◌, ap, sym, subst, Ok, Err, IsUtf8}
use Rattle.percent_encoding.specs.Iter.{decoded_bytes}
use Rattle.percent_encoding.specs.Percent.{percent_decode}
use Rattle.broker_types.specs.Words.{is_path, without_slash}
use Rattle.http_layer.proofs.AskedLemmas.{path_read-no_text, path_read-path}
use Rattle.http_layer.proofs.asking.read_path.Goals as goal

pub returns-in-Err-Utf8-clause-path : goal.returns-in-Err-Utf8-clause-path
returns-in-Err-Utf8-clause-path c =
    let decoded : decoded_bytes c.percent_decode.result ≡ percent_decode c.args.encoded.now =
    c.percent_decode.ensures.bytes ∙ ap percent_decode c.as_bytes.ensures.value in
    let error = c.in-Err-Utf8.field-0-is in
    rw c.into.ensures
    (path_read-no_text _ (λ text. let full = c.in-Err-Utf8.ensures.utf8 (subst IsUtf8 (sym decoded) text) in cc)
    ∙ ap Err (sym c.bad_request.ensures))

pub returns-in-Ok-read-clause-path : goal.returns-in-Ok-read-clause-path
returns-in-Ok-read-clause-path c =
    let decoded : decoded_bytes c.percent_decode.result ≡ percent_decode c.args.encoded.now =
    c.percent_decode.ensures.bytes ∙ ap percent_decode c.as_bytes.ensures.value in
    let path : c.in-Ok-read.path ≡ without_slash (percent_decode c.args.encoded.now) =
    c.in-Ok-read.ensures.0 ∙ ap without_slash (c.in-Ok.ensures.value ∙ decoded) in
    path_read-path _ (subst IsUtf8 decoded c.in-Ok.ensures.ok_only_if_utf8)
    (ap is_path (sym path) ∙ c.in-Ok-read.ensures.1)
    ∙ ap Ok (sym path)
