-- What a reader of lines has left, and what its calls take of it (this project's definition).
use Rattle.std.specs.Prelude.{◌≡◌, ℕ, List, Vec, Bool, true, false, Option, Some, None, Result, Ok, Err, ⊤}
use Rattle.std.specs.Io.KnownBytes.{Consumes, IsAtEnd, Keeps, prepend_known}
use Rattle.std.specs.declared.alloc.Global.{Global}
use Rattle.records.specs.Words.{lacks, line_feed}
use Rattle.endpoints.specs.declared.Failed.{Failed}
use Rattle.transfer.specs.Files.{fed}
use Rattle.transfer.specs.declared.line_reader.LineReader.{LineReader}
use Rattle.transfer.specs.declared.refusal.Why.{Why}

-- the bytes that wait, and those that the source has left, if they are known
abbrev pub left_of : {R : Type 0} → (R → Option (List ℕ)) → LineReader R → Option (List ℕ)
left_of left reader = prepend_known reader.pending (left reader.source)

-- a line was taken with its line feed
abbrev pub IsNext : Option (List ℕ) → Option (List ℕ) → Result (Vec ℕ Global) Why → Type 0
IsNext old new (Ok line) = Consumes old new (fed line.items) × (lacks line_feed line.items ≡ true)
IsNext old new (Err why) = ⊤

-- no byte is left
abbrev pub IsAtItsEnd : Option (List ℕ) → Option Why → Type 0
IsAtItsEnd old None = IsAtEnd old
IsAtItsEnd old (Some why) = ⊤

-- bytes were pulled, and none taken; false at the end
abbrev pub IsFilled : Option (List ℕ) → Option (List ℕ) → Result Bool Failed → Type 0
IsFilled old new (Ok true) = Keeps old new
IsFilled old new (Ok false) = Keeps old new × IsAtEnd old
IsFilled old new (Err failed) = ⊤
