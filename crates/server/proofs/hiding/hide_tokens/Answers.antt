use Rattle.std.proofs.Common.{◌≡◌, List, ℕ, [], subst}
use Rattle.server.specs.Hiding.{HidesTokens, hidden}
use Rattle.server.proofs.HidingLemmas.{hides}
use Rattle.server.proofs.hiding.hide_tokens.Goals as goal

pub returns-else-may_have_token-clause-hides : goal.returns-else-may_have_token-clause-hides
returns-else-may_have_token-clause-hides c =
    let same : hidden [] c.args.line.items ≡ c.args.line.items =
    subst (λ (l : List ℕ). hidden [] l ≡ l) c.deref.ensures.value
    (c.may_have_token.ensures c.if-may_have_token.false) in
    subst HidesTokens same (hides c.args.line.items)
