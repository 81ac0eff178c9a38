-- From the rows of the caller and of its policies to what it may ask.
use Rattle.std.proofs.Common.{◌≡◌, Bool, false, List, Option, Some, None, option_map, refl, sym, ◌∙◌, ap, subst}
use Rattle.broker_model.specs.Words.{option_map_or, none-some, same_Some, Broker, get, Text, Token, Verb, TokenEntry}
use Rattle.broker_model.specs.Words.{token_entry, Rows, rules_of, Rules, Capability, may, permits}
use Rattle.broker_model.specs.Capabilities as capabilities
use Rattle.broker_rows.specs.Words.{AreRulesAt, Caller, IsCallerOf}

-- ---- the policies

-- rules that the rows say are those that they said before, of the names as the caller's row has them
pub rules_before : (old new : Rows) (names own : List Text) (v : Verb) (rules : Rules) → new ≡ old → names ≡ own
    → AreRulesAt new names v rules → AreRulesAt old own v rules
rules_before old new names own v rules same_rows same_names are =
    subst (λ rows. AreRulesAt rows own v rules) same_rows (subst (λ ns. AreRulesAt new ns v rules) same_names are)

-- ---- the caller

-- a token may ask what the policies of its entry allow
pub entry_told : (P : List Text → Bool) (o : Option Token) (found : Option TokenEntry) (entry : TokenEntry)
    → found ≡ option_map token_entry o
    → found ≡ Some entry → P entry.policies ≡ option_map_or (λ (x : Token). P x.policies) o false
entry_told P None found entry e some = absurd (none-some _ (sym e ∙ some))
entry_told P (Some x) found entry e some = ap (λ (z : TokenEntry). P z.policies) (sym (same_Some _ _ (sym e ∙ some)))

-- so it may ask what the rules allow
pub permitted_told : (b : Broker) (c : Caller) (verb : Verb) (path : Text) (asked : Capability) (rules : Rules)
    (v : Bool) → IsCallerOf b c → asked ≡ capabilities.asked b c.token verb path
    → rules ≡ rules_of b.policies c.known.policies verb → v ≡ may rules path asked
    → v ≡ permits b (Some c.token) verb path
permitted_told b c verb path asked rules v here asks said is =
    let allowed : List Text → Bool =
    λ (ns : List Text). may (rules_of b.policies ns verb) path (capabilities.asked b c.token verb path) in
    is ∙ (λ i. may (said i) path (asks i))
    ∙ entry_told allowed (get b.tokens c.token) (Some c.known) c.known here refl
