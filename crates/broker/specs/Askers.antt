-- Who asks: a caller that may, or nobody, for an open ask (this project's definition).
use Rattle.broker_model.specs.Words.{Option, Some, None, option_map, Broker, Text, IsTokenInRange, IsSomeIn, Rows}
use Rattle.broker_rows.specs.Words.{Asker, AreItsRules, Context, Begins, BeginsBy}

-- the token of the caller, if there is one
abbrev pub who_of : Option Asker → Option Text
who_of = option_map (λ (a : Asker). a.caller.token)

-- the rows represent the broker that the command starts from, and say what the caller's policies say
abbrev pub BeginsFor : Option Asker → Context → Rows → Broker → Type 0
BeginsFor None x rows b = Begins None x rows b
BeginsFor (Some a) x rows b = AreItsRules rows a × BeginsBy a.caller x rows b

-- what its row says can be kept
abbrev pub IsAskerInRange : Option Asker → Type 0
IsAskerInRange = IsSomeIn (λ (a : Asker). IsTokenInRange a.caller.known)
