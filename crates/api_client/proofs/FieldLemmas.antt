-- The member of a reply that is asked for.
use Rattle.api_client.specs.Words.{◌≡◌, ◌++◌, ◌∷◌, List, [], Option, Some, map, Bor, fold, IsSomeAnd, fold-append}
use Rattle.api_client.specs.Words.{map-append, Text, Data, member_in}

-- one part more of a path
pub one_part_more : (from : Option Data) (parts : List (Bor Text)) (part : Bor Text)
    → fold member_in from (map (λ p. p.now) (parts ++ part ∷ []))
    ≡ member_in (fold member_in from (map (λ p. p.now) parts)) part.now
one_part_more from parts part =
    rw (map-append (λ (p : Bor Text). p.now) parts (part ∷ []))
    (fold-append member_in from (map (λ (p : Bor Text). p.now) parts) (part.now ∷ []))

pub found_and : {A : Type 0} (o : Option A) (x : A) (P : A → Type 0) → o ≡ Some x → P x → IsSomeAnd o P
found_and o x P is holds = rw is holds
