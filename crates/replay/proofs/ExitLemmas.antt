-- Which faults a replay ends with.
use Rattle.std.proofs.Common.{◌≡◌, ◌⊎◌, inl, inr, ℕ, Bool, refl, arith}
use Rattle.records.specs.Words.{⊤, IsMemoryOrStorage, fault_number, Fault, Memory, Storage, Damaged, BadStart}
use Rattle.replay.specs.Exits.{EndsBy}
use Rattle.replay.specs.declared.replaying.Exit.{Exit}
use Rattle.replay.specs.declared.replaying.Exit.TheVariants.{Done, Faulted, BadLine}

-- a fault of a start, where the words were equal if it was refused
pub ends_by_start : (fault : Fault) (EqualWords : Type 0) (failed : Bool) → IsMemoryOrStorage fault ⊎ (fault ≡ BadStart)
    → (fault ≡ BadStart → EqualWords) → EndsBy EqualWords ⊤ failed (Faulted (fault_number fault))
ends_by_start Memory EqualWords failed came equal = inl refl
ends_by_start Storage EqualWords failed came equal = inr (inl (refl, tt))
ends_by_start Damaged EqualWords failed (inl came) equal = absurd came
ends_by_start Damaged EqualWords failed (inr came) equal = absurd (cc)
ends_by_start BadStart EqualWords failed came equal = inr (inr (inl (refl, equal refl)))

-- what follows from it
pub ends_weaker : (E F S T : Type 0) (failed : Bool) (exit : Exit) → (E → F) → (S → T) → EndsBy E S failed exit
    → EndsBy F T failed exit
ends_weaker E F S T failed Done e s h = tt
ends_weaker E F S T failed (BadLine line) e s h = tt
ends_weaker E F S T failed (Faulted number) e s (inl h) = inl h
ends_weaker E F S T failed (Faulted number) e s (inr (inl h)) = inr (inl (h.0, s h.1))
ends_weaker E F S T failed (Faulted number) e s (inr (inr (inl h))) = inr (inr (inl (h.0, e h.1)))
ends_weaker E F S T failed (Faulted number) e s (inr (inr (inr h))) = inr (inr (inr h))

early_number : (number : ℕ) (StorageFailed : Type 0) (failed : Bool) → EndsBy ⊥ StorageFailed failed (Faulted number)
    → (number ≡ 4) ⊎ (number ≡ 5) → ⊥
early_number number StorageFailed failed (inl one) (inl four) = omega (arith, one, four)
early_number number StorageFailed failed (inl one) (inr five) = omega (arith, one, five)
early_number number StorageFailed failed (inr (inl two)) (inl four) = omega (arith, two.0, four)
early_number number StorageFailed failed (inr (inl two)) (inr five) = omega (arith, two.0, five)
early_number number StorageFailed failed (inr (inr (inl equal))) early = equal.1
early_number number StorageFailed failed (inr (inr (inr six))) (inl four) = omega (arith, six.0, four)
early_number number StorageFailed failed (inr (inr (inr six))) (inr five) = omega (arith, six.0, five)

-- a run of events ends with no fault of a start, and with none of a read
pub no_early_end : (StorageFailed : Type 0) (failed : Bool) (exit : Exit) → EndsBy ⊥ StorageFailed failed exit
    → (exit ≡ Faulted 4) ⊎ (exit ≡ Faulted 5) → ⊥
no_early_end StorageFailed failed Done ends (inl is) = cc
no_early_end StorageFailed failed Done ends (inr is) = cc
no_early_end StorageFailed failed (BadLine line) ends (inl is) = cc
no_early_end StorageFailed failed (BadLine line) ends (inr is) = cc
no_early_end StorageFailed failed (Faulted number) ends (inl is) =
    let four : number ≡ 4 = cc in early_number number StorageFailed failed ends (inl four)
no_early_end StorageFailed failed (Faulted number) ends (inr is) =
    let five : number ≡ 5 = cc in early_number number StorageFailed failed ends (inr five)
