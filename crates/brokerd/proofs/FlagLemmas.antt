-- Lemmas on flags of the command line.
use Rattle.std.proofs.Common.{◌≡◌, ◌∙◌, Bor, List, ℕ, Option, Some, None, Bool, ap, true, false, codes, is_some}
use Rattle.std.proofs.Common.{option_map, refl}
use Rattle.clap.specs.Words.{Text}
use Rattle.brokerd.specs.CommandLine.{IsFlag, IsNotSet, IsSet}

pub set : (o : Option Text) (flag : Bool) → (o ≡ None → flag ≡ false) → (o ≡ Some (codes "false") → flag ≡ false)
    → flag ≡ true → IsSet o
set o false none other is = cc is
set o true none other is = (λ e. cc (none e), λ e. cc (other e))

pub not_set : (o : Option Text) (flag : Bool) → (o ≡ Some (codes "true") → flag ≡ true) → flag ≡ false → IsNotSet o
not_set o true value is = cc is
not_set o false value is = λ e. cc (value e)

-- what `clap` answers of a flag
pub is_flag : (o : Option Text) (flag : Bool) → (o ≡ None → flag ≡ false) → (o ≡ Some (codes "false") → flag ≡ false)
    → (o ≡ Some (codes "true") → flag ≡ true) → IsFlag flag o
is_flag o true none other value = set o true none other refl
is_flag o false none other value = not_set o false value refl

-- whether a value is given is whether its text is
mapped : (o : Option (Bor (List ℕ))) → is_some o ≡ is_some (option_map (λ s. s.now) o)
mapped None = refl
mapped (Some s) = refl

pub given_of : (o : Option (Bor (List ℕ))) (text : Option Text) → option_map (λ s. s.now) o ≡ text
    → is_some o ≡ is_some text
given_of o text e = mapped o ∙ ap (λ (t : Option Text). is_some t) e
