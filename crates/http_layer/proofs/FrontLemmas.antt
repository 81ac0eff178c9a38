-- A front that is known.
use Rattle.std.proofs.Common.{◌≡◌, ℕ, List}
use Rattle.http_layer.specs.Words.{Status, front_of, IsNeed, HeadParts, need, refused_with, whole, IsFront}
use Rattle.http_layer.specs.Words.{IsFront-unique}
use Rattle.http_layer.specs.declared.front.Cut.{Cut}
use Rattle.http_layer.specs.declared.front.Cut.TheVariants.{Need, Whole, Refused}

-- what is refused or whole is not waited for
pub refused_known : (s : List ℕ) (status : Status) → IsFront s (refused_with status) → IsFront s need → ⊥
refused_known s status a b = let e : refused_with status ≡ need = IsFront-unique s (refused_with status) need a b in cc

pub whole_known : (s : List ℕ) (len : ℕ) (p : HeadParts) (body : List ℕ) → IsFront s (whole len p body) → IsFront s need
    → ⊥
whole_known s len p body a b = let e : whole len p body ≡ need = IsFront-unique s (whole len p body) need a b in cc

-- what is waited for is need
pub is_need : (s : List ℕ) (c : Cut) → IsFront s (front_of c) → IsFront s need → IsNeed c
is_need s Need a b = tt
is_need s (Refused status) a b = refused_known s status a b
is_need s (Whole len p body) a b = whole_known s len p body a b
