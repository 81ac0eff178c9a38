-- Tokens with a limited number of uses (Vault's documentation, "Tokens", use limits).
use Rattle.std.specs.Prelude.{◌-◌, ◌==◌, Bool, false, if◌then◌else◌, Option, Some, None, option_map}
use Rattle.std.specs.Option.{option_map_or}
use Rattle.broker_types.specs.Text.{Text}
use Rattle.broker_types.specs.Map.{get, without, change}
use Rattle.broker_types.specs.Token.{Token}
use Rattle.broker_types.specs.Broker.{Broker, revoke}

-- one use less, if its uses are limited
abbrev pub one_less : Token → Token
one_less x = record x { uses_left = option_map (λ n. n - 1) x.uses_left }

-- one use less for the caller c, if its uses are limited
abbrev pub spend : Broker → Text → Broker
spend b c = record b { tokens = change b.tokens c one_less }

-- the token has spent its last use
abbrev pub is_spent : Token → Bool
is_spent x = option_map_or (λ n. n == 0) x.uses_left false

-- a caller that has spent its last use ends, with its descendants
abbrev pub end_spent : Broker → Option Text → Broker
end_spent b None = b
end_spent b (Some c) = if option_map_or is_spent (get b.tokens c) false then revoke b c else b

-- the broker without the response that waits under t (Vault's documentation, "Response wrapping")
abbrev pub drop_waiting : Broker → Text → Broker
drop_waiting b t = record b { waiting = without b.waiting t }
