-- Steps of a definition: the first refusal is the answer, as with `?` in code (this project's definition).
use Rattle.std.specs.Prelude.{Bool, true, false, Option, Some, None, Result, Ok, Err, ⊤}
use Rattle.broker_types.specs.declared.refusal.Refusal.{Refusal}

infixl 10 ◌>>=◌
-- the next step, unless this one was refused
abbrev pub ◌>>=◌ : {A B : Type 0} → Result A Refusal → (A → Result B Refusal) → Result B Refusal
(Ok x) >>= f = f x
(Err e) >>= f = Err e

-- the value, or the refusal if there is none
abbrev pub some_or : {A : Type 0} → Refusal → Option A → Result A Refusal
some_or e None = Err e
some_or e (Some x) = Ok x

-- the refusal, unless the test holds
abbrev pub unless : Bool → Refusal → Result ⊤ Refusal
unless true r = Ok tt
unless false r = Err r
