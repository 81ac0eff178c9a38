-- Bytes that are filled up with zeros.
use Rattle.std.proofs.Common.{◌≡◌, ◌≤◌, ◌++◌, ◌-◌, ℕ, zero, suc, List, length, take, length-take, Result, Ok, Err, OnOk}
use Rattle.std.proofs.Common.{refl, ap, ◌∙◌, arith}
use Rattle.std.specs.Prelude.{slice_index, replicate, is_ok, if◌then◌else◌}
use Rattle.std.proofs.lemmas.List.{get_or-append_right}
use Rattle.ram_disk.specs.RamFile.{AreZero}

zero_at : (n j : ℕ) → slice_index (replicate n 0) j ≡ 0
zero_at zero j = refl
zero_at (suc n) zero = refl
zero_at (suc n) (suc j) = zero_at n j

longer : (len n : ℕ) (old new : List ℕ) → new ≡ take len old ++ replicate n 0 → AreZero (length old) len new
longer len n old new is i from to =
    let low : length (take len old) ≤ i = omega (arith, length-take len old, from) in
    ap (λ b. slice_index b i) is ∙ get_or-append_right (take len old) (replicate n 0)
    (length (take len old)) i 0 refl low
    ∙ zero_at n (i - length (take len old))

pub filled_up : {E : Type 0} (r : Result (Unit {0}) E) (len n : ℕ) (old new : List ℕ)
    → new ≡ (if is_ok r then take len old ++ replicate n 0 else old)
    → OnOk r (AreZero (length old) len new)
filled_up (Ok x) len n old new is = longer len n old new is
filled_up (Err e) len n old new is = tt
