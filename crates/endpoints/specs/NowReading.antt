-- What a reader as a source that does not wait shows (this project's definition).
use Rattle.std.specs.Prelude.{Bool}
use Rattle.endpoints.specs.declared.now.NowReading.{NowReading}

-- the reader as it is now
abbrev pub reader_of : {R : Type 0} → NowReading R → R
reader_of source = source.reader

-- whether a pull failed
abbrev pub read_failed : {R : Type 0} → NowReading R → Bool
read_failed source = source.failed
