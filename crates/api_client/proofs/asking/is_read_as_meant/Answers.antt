use Rattle.api_client.specs.Words.{◌≡◌, ℕ, List, true, subst, is_field_text}
use Rattle.api_client.proofs.AskedLemmas.{sent_asks}
use Rattle.api_client.proofs.asking.is_read_as_meant.Goals as goal

pub returns : goal.returns
returns c =
    let laws = c.front_laws.ensures in
    sent_asks laws.printed laws.printed_length c.args.command.now
    (subst (λ (t : List ℕ). is_field_text t ≡ true) c.as_str.ensures.text c.as_str.ensures.good)
    c.is_optional_field.ensures c.is_optional_field-2.ensures c.is_sendable.ensures
