-- Readings of a transaction, one after another.
use Rattle.std.proofs.Common.{◌≡◌, false, Ok, Err, ◌∙◌}
use Rattle.broker_model.specs.Words.{Fault, IsReading, goes_further, honest_before, Seen, IsHonest, GoesOn}

-- two that answered
pub read_both : {A B C : Type 0} {a b c : Seen} {F : Fault → Type 0} {x : A} {y : B} {z : C} → IsReading a b (Ok x) F
    → IsReading b c (Ok y) F → IsReading a c (Ok z) F
read_both {a = a} {b = b} {c = c} first next =
    record {
      same = λ honest. next.same honest ∙ first.same (honest_before b c _ next.goes_on honest);
      faults = tt;
      goes_on = goes_further a b c _ first.goes_on next.goes_on;
    }

-- what was read so far, by two that answered
pub read_on : {A B : Type 0} {a b c : Seen} {F : Fault → Type 0} {x : A} {y : B} → IsReading a b (Ok x) F
    → IsReading b c (Ok y) F → IsReading a c (Ok false) F
read_on first next = read_both first next

-- one that answered, and one that failed
pub read_fails : {A B C : Type 0} {a b c : Seen} {F : Fault → Type 0} {x : A} {f : Fault} → IsReading a b (Ok x) F
    → IsReading {A = B} b c (Err f) F → IsReading {A = C} a c (Err f) F
read_fails {a = a} {b = b} {c = c} first next =
    record {
      same = λ honest. tt;
      faults = next.faults;
      goes_on = goes_further a b c _ first.goes_on next.goes_on;
    }

-- what was read so far, in a loop
pub read_so_far : {a b : Seen} {F : Fault → Type 0} → (IsHonest b → b.rows ≡ a.rows) → GoesOn a b false
    → IsReading a b (Ok false) F
read_so_far same on = record { same = same; faults = tt; goes_on = on }
