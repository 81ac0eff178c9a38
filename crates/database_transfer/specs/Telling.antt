-- What a sink and a source that tell their progress show (this project's definition).
use Rattle.database_transfer.specs.declared.telling.TellingSink.{TellingSink}
use Rattle.database_transfer.specs.declared.telling.TellingSource.{TellingSource}

-- the sink as it is now
abbrev pub sink_of : {W : Type 0} → TellingSink W → W
sink_of told = told.sink

-- the source as it is now
abbrev pub source_of : {R : Type 0} → TellingSource R → R
source_of told = told.source
