-- What a writer as a sink shows (this project's definition).
use Rattle.std.specs.Prelude.{Bool}
use Rattle.endpoints.specs.declared.writing.Writing.{Writing}

-- the writer as it is now
abbrev pub writer_of : {W : Type 0} → Writing W → W
writer_of sink = sink.writer

-- whether a push failed
abbrev pub write_failed : {W : Type 0} → Writing W → Bool
write_failed sink = sink.failed
