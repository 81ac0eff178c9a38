-- How a replay ends (this project's definition).
use Rattle.std.specs.Prelude.{◌≡◌, ◌⊎◌, Bool, IsTrue, Option, Some, None, ⊤}
use Rattle.records.specs.Words.{token_word, accessor_word}
use Rattle.replay.specs.Lines.{Told}
use Rattle.replay.specs.declared.replaying.Exit.{Exit}
use Rattle.replay.specs.declared.replaying.Exit.TheVariants.{Done, Faulted, BadLine}

-- words 1 and 2 of the start are equal: no root token is made of these
abbrev pub HasEqualWords : Option Told → Type 0
HasEqualWords None = ⊥
HasEqualWords (Some t) = token_word t.start.words ≡ accessor_word t.start.words

-- its fault, if it has one: memory ran out, the storage failed, the words of the start are equal, or a write failed
abbrev pub EndsBy : Type 0 → Type 0 → Bool → Exit → Type 0
EndsBy EqualWords StorageFailed write_failed Done = ⊤
EndsBy EqualWords StorageFailed write_failed (BadLine line) = ⊤
EndsBy EqualWords StorageFailed write_failed (Faulted number) =
    (number ≡ 1) ⊎ ((number ≡ 2) × StorageFailed) ⊎ ((number ≡ 4) × EqualWords)
    ⊎ ((number ≡ 6) × IsTrue write_failed)

-- the same of a storage in memory, of which no contract tells whether it failed, or a read failed
abbrev pub EndsByRead : Type 0 → Type 0 → Bool → Exit → Type 0
EndsByRead EqualWords ReadFailed write_failed Done = ⊤
EndsByRead EqualWords ReadFailed write_failed (BadLine line) = ⊤
EndsByRead EqualWords ReadFailed write_failed (Faulted number) =
    (number ≡ 1) ⊎ (number ≡ 2) ⊎ ((number ≡ 4) × EqualWords) ⊎ ((number ≡ 5) × ReadFailed)
    ⊎ ((number ≡ 6) × IsTrue write_failed)
