-- Tests of a creation, one after another.
use Rattle.std.proofs.Common.{◌≡◌, Result, Ok, sym}
use Rattle.broker_model.specs.Words.{⊤, ◌>>=◌, Refusal}

-- what six tests passed is up to the seventh
pub seventh : (a b c d e f g r : Result ⊤ Refusal) (p q s t u v : ⊤) → a ≡ Ok p → b ≡ Ok q → c ≡ Ok s → d ≡ Ok t
    → e ≡ Ok u → f ≡ Ok v → r ≡ g
    → r ≡ (a >>= (λ _. b >>= (λ _. c >>= (λ _. d >>= (λ _. e >>= (λ _. f >>= (λ _. g)))))))
seventh a b c d e f g r p q s t u v one two three four five six seven =
    sym (λ i. one i >>= (λ _. two i >>= (λ _. three i
    >>= (λ _. four i >>= (λ _. five i >>= (λ _. six i >>= (λ _. sym seven i)))))))
