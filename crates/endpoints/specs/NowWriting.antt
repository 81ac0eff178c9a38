-- What a writer as a sink that does not wait shows (this project's definition).
use Rattle.std.specs.Prelude.{Bool}
use Rattle.endpoints.specs.declared.now.NowWriting.{NowWriting}

-- the writer as it is now
abbrev pub writer_of : {W : Type 0} → NowWriting W → W
writer_of sink = sink.writer

-- whether a push failed
abbrev pub write_failed : {W : Type 0} → NowWriting W → Bool
write_failed sink = sink.failed
