-- Laws of a definition's steps.
use Rattle.std.proofs.Common.{◌≡◌, Bool, true, false, Option, Some, None, Result, Ok, Err, is_ok, refl, sym, ap, subst}
use Rattle.broker_types.specs.Words.{⊤, false≢true, ◌>>=◌, some_or, unless, EndsOk}
use Rattle.broker_types.specs.declared.refusal.Refusal.{Refusal}

-- a refusal is no answer
pub no_ok : {X Y : Type 0} {e : Refusal} {x : X} → ◌≡◌ {A = Result X Refusal} (Err e) (Ok x) → Y
no_ok h = absurd (false≢true (ap is_ok h))

-- a step that is not refused, and what follows
pub ok_step : {A B : Type 0} (r : Result A Refusal) (f : A → Result B Refusal) (d : B) → (r >>= f) ≡ Ok d
    → (x : A) × (r ≡ Ok x) × (f x ≡ Ok d)
ok_step (Ok x) f d e = (x, refl, e)
ok_step (Err r) f d e = no_ok e

-- a test that is not refused holds
pub unless_ok : (v : Bool) (r : Refusal) (u : ⊤) → unless v r ≡ Ok u → v ≡ true
unless_ok true r u e = refl
unless_ok false r u e = no_ok e

-- a value that is not refused is there
pub some_ok : {X : Type 0} (r : Refusal) (o : Option X) (x : X) → some_or r o ≡ Ok x → o ≡ Some x
some_ok r None x e = no_ok e
some_ok r (Some y) x e = cc

-- a test that passed, and then the value
pub ends_unless : {X Y : Type 0} (v : Bool) (r : Refusal) (P : X → Y → Type 0) (x : X) (y : Y) → v ≡ true → P x y
    → EndsOk P x (unless v r >>= (λ _. Ok y))
ends_unless v r P x y passes p = subst (λ v. EndsOk P x (unless v r >>= (λ _. Ok y))) (sym passes) p
