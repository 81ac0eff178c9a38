-- The caller of a request, and what it may ask with (this project's definition).
use Rattle.std.specs.Prelude.{◌≡◌, List, Some, option_map}
use Rattle.broker_model.specs.Words.{Broker, Map, get, Text, Verb, table_of, TokenEntry, token_entry, Rows, rules_of}
use Rattle.broker_model.specs.Words.{ArePoliciesAt, Rules}

-- its token, and what the row of this token says
pub record Caller : Type 0 where
  pub token : Text
  pub known : TokenEntry

-- the caller is a token of the broker
abbrev pub IsCallerOf : Broker → Caller → Type 0
IsCallerOf b c = Some c.known ≡ option_map token_entry (get b.tokens c.token)

-- these are the rules of the policies that the rows tell of these names, for what is asked for with a verb
abbrev pub AreRulesAt : Rows → List Text → Verb → Rules → Type 0
AreRulesAt rows names v rules =
    (policies : Map Text) → ArePoliciesAt (table_of rows) names policies → rules ≡ rules_of policies names v

-- a caller that may ask, and what its policies say
pub record Asker : Type 0 where
  pub caller : Caller
  pub rules : Rules

-- the rows of the caller's policies say so, for the verb that it asks with
abbrev pub AreItsRules : Rows → Asker → Type 0
AreItsRules rows a = (v : Verb) × AreRulesAt rows a.caller.known.policies v a.rules
