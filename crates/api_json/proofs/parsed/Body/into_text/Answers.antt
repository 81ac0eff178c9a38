use Rattle.broker_types.specs.Words.{subst, sym, ap, ◌∙◌}
use Rattle.serde_json.specs.Written.{has_float, compact_text}
use Rattle.serde_json.proofs.Views.{view-Object}
use Rattle.api_json.specs.Words.{IsKept, members_of}
use Rattle.api_json.proofs.KeptObjects.{bodies_kept, given_members}
use Rattle.api_json.proofs.parsed.Body.into_text.Goals as goal

pub returns-clause-storable : goal.returns-clause-storable
returns-clause-storable c bytes fits is =
    let seen = view-Object c.args.self.members in
    let text = c.new.ensures ∙ c.in_ok-to_string.ensures.text (ap has_float seen ∙ c.args.self.whole)
    ∙ ap compact_text seen in
    subst IsKept (sym text)
    (bodies_kept bytes (members_of c.args.self) fits (given_members bytes (members_of c.args.self) is))
