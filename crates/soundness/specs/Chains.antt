-- Tokens whose chains of parents end, as a walk from those without an owner finds them (this project's definition).
use Rattle.std.specs.Prelude.{◌≡◌, ◌<◌, ◌^◌, ◌++◌, ℕ, List, Contains, true}
use Rattle.std.specs.BTreeSet as set
use Rattle.broker_model.specs.Words.{BTreeSet, nat_cmp, Text, token_text, id, Table}
use Rattle.soundness.specs.Broken.{IsRooted}

-- the word of the token is in the set
abbrev pub HasWordOf : BTreeSet ℕ → Text → Type 0
HasWordOf words t =
    (word : ℕ) → word < 2 ^ 128 → t ≡ token_text (id word) → set.contains nat_cmp words word ≡ true

-- so is that of each token whose chain of parents ends
abbrev pub HasEachRooted : Table → BTreeSet ℕ → Type 0
HasEachRooted rows words = (t : Text) → IsRooted rows t → HasWordOf words t

-- the token of each word is in the queue
abbrev pub AreQueued : BTreeSet ℕ → List Text → Type 0
AreQueued words queue =
    (word : ℕ) → set.contains nat_cmp words word ≡ true → Contains queue (token_text (id word))

-- words and tokens are added, each token of a new word at the end of the queue
pub record OnlyAdds (old new : BTreeSet ℕ) (queue new_queue : List Text) : Type 0 where
  pub words : (word : ℕ) → set.contains nat_cmp old word ≡ true → set.contains nat_cmp new word ≡ true
  pub at_end : (more : List Text) × (new_queue ≡ queue ++ more)
  pub queued : AreQueued old queue → AreQueued new new_queue
