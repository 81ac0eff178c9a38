use Rattle.api_client.specs.Words.{◌≡◌, ap, ◌∙◌, percent_encode, encoded_text, escaped}
use Rattle.api_client.proofs.EscapingLemmas.{percent_encode-escaped}
use Rattle.api_client.proofs.escaping.push_escaped.Goals as goal

pub returns : goal.returns
returns c =
    let bytes : encoded_text c.percent_encode.result ≡ escaped c.args.path.now =
    c.percent_encode.ensures.text ∙ ap (percent_encode c.escaped_set.result) c.as_bytes.ensures.value
    ∙ percent_encode-escaped c.escaped_set.result c.escaped_set.ensures c.args.path.now in
    rw (← bytes) c.append_to.ensures.ok
