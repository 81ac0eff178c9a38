-- What a number on the command line is, as `clap` reads it.
use Rattle.std.proofs.Common.{◌≡◌, ℕ, List, Option, Some, None, Result, Ok, Err, unwrap_or, ap, refl}
use Rattle.std.specs.Str.Parse.{ParsesUnsigned, ExplainsUnsignedError, HasUnsignedDigitsIfOk, digits_value}
use Rattle.std.specs.Str.Parse.{without_leading_plus}
use Rattle.std.specs.declared.num.ParseIntError.{ParseIntError}
use Rattle.clap.specs.Words.{Text, TriesOne}
use Rattle.brokerd.specs.CommandLine.{IsNumber, IsNumberIf, IsNumberOr}

-- how `clap` reads a text as a number
abbrev pub Reads : List ℕ → Result ℕ ParseIntError → Type 0
Reads text r = ParsesUnsigned 32 10 text r × ExplainsUnsignedError 10 text r × HasUnsignedDigitsIfOk text r

pub counted : {E : Type 0} (usual : ℕ) (G : List ℕ → Result ℕ E → Type 0) (o : Option Text) (given : Option ℕ)
    → ((t : Text) (v : ℕ) → G t (Ok v) → IsNumberOr usual (Some t) v)
    → (o ≡ None → ◌≡◌ {A = Result (Option ℕ) E} (Ok given) (Ok None))
    → ((t : Text) → o ≡ Some t → TriesOne G t (Ok given)) → IsNumberOr usual o (unwrap_or given usual)
counted usual G None None reads none value = refl
counted usual G None (Some v) reads none value = cc (none refl)
counted usual G (Some t) None reads none value = absurd (value t refl)
counted usual G (Some t) (Some v) reads none value = reads t v (value t refl)

pub counted_if : {E : Type 0} (G : List ℕ → Result ℕ E → Type 0) (o : Option Text) (given : Option ℕ)
    → ((t : Text) (v : ℕ) → G t (Ok v) → IsNumber t × (v ≡ digits_value 10 (without_leading_plus t)))
    → (o ≡ None → ◌≡◌ {A = Result (Option ℕ) E} (Ok given) (Ok None))
    → ((t : Text) → o ≡ Some t → TriesOne G t (Ok given)) → IsNumberIf o given
counted_if G None None reads none value = refl
counted_if G None (Some v) reads none value = cc (none refl)
counted_if G (Some t) None reads none value = absurd (value t refl)
counted_if G (Some t) (Some v) reads none value =
    let read = reads t v (value t refl) in (read.0, ap (λ (n : ℕ). Some n) read.1)

pub uncounted : {E : Type 0} (G : List ℕ → Result ℕ E → Type 0) (o : Option Text) (error : E)
    → ((t : Text) → G t (Err error) → ¬ IsNumber t)
    → (o ≡ None → ◌≡◌ {A = Result (Option ℕ) E} (Err error) (Ok None))
    → ((t : Text) → o ≡ Some t → TriesOne G t (Err error)) → (t : Text) × (o ≡ Some t) × ¬ IsNumber t
uncounted G None error reads none value = cc (none refl)
uncounted G (Some t) error reads none value = (t, refl, reads t (value t refl))
