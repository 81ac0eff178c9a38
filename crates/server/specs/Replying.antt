-- What a sink that knows statuses shows (this project's definition).
use Rattle.server.specs.declared.replying.Replying.{Replying}

-- the sink below
abbrev pub sink_of : {W : Type 0} → Replying W → W
sink_of replying = replying.sink
