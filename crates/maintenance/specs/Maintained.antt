-- What maintenance makes of a broker, of one response or token after another (this project's definition).
use Rattle.std.specs.Prelude.{List, [], ◌∷◌}
use Rattle.broker_model.specs.Words.{Broker, Text, empty, keys, drop_waiting, revoke_orphan}

-- ---- responses that wait

-- the wrapping tokens of the responses that wait, in the order of their bytes
abbrev pub responses_of : Broker → List Text
responses_of b = keys b.waiting

-- the broker without the responses that wait
abbrev pub without_responses : Broker → Broker
without_responses b = record b { waiting = empty }

-- the broker after the responses of these wrapping tokens were dropped, one after another
abbrev pub dropped_each : List Text → Broker → Broker
dropped_each [] b = b
dropped_each (t ∷ ts) b = dropped_each ts (drop_waiting b t)

-- ---- tokens

-- the broker after these tokens were revoked, each alone, one after another
abbrev pub revoked_each : List Text → Broker → Broker
revoked_each [] b = b
revoked_each (t ∷ ts) b = revoked_each ts (revoke_orphan b t)
