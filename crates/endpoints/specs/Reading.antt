-- What a reader as a source shows (this project's definition).
use Rattle.std.specs.Prelude.{ℕ, Bool}
use Rattle.endpoints.specs.declared.reading.Reading.{Reading}

-- the reader as it is now
abbrev pub reader_of : {R : Type 0} → Reading R → R
reader_of source = source.reader

-- how many pulls did not fail
abbrev pub pulls_of : {R : Type 0} → Reading R → ℕ
pulls_of source = source.pulls

-- whether a pull failed
abbrev pub read_failed : {R : Type 0} → Reading R → Bool
read_failed source = source.failed
