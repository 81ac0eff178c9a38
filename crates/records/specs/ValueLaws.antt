-- Values in options and results: laws that std does not have.
use Rattle.std.specs.Prelude.{◌≡◌, if◌then◌else◌, Bool, true, false, Option, Some, None, Result, Ok, Err, option_map}
use Rattle.broker_types.specs.Words.{option_and_then, refl, ap}

-- an option that has no value
pub none_of : {X : Type 0} (o : Option X) → ((x : X) → o ≡ Some x → ⊥) → o ≡ None
none_of None h = refl
none_of (Some x) h = absurd (h x refl)

-- equal results have equal values
pub ok_inj : {X E : Type 0} {x y : X} → ◌≡◌ {A = Result X E} (Ok x) (Ok y) → x ≡ y
ok_inj {X = X} {E = E} {x = x} e = ap or_x e
  where
    or_x : Result X E → X
    or_x (Ok y) = y
    or_x (Err z) = x

-- a function of a value that a change of the value does not show
pub mapped_unseen : {X A : Type 0} (g : X → A) (f : X → X) → ((x : X) → g (f x) ≡ g x) → (o : Option X)
    → option_map g (option_map f o) ≡ option_map g o
mapped_unseen g f h None = refl
mapped_unseen g f h (Some x) = ap Some (h x)

-- the same of a function that may have no value
pub then_unseen : {X A : Type 0} (g : X → Option A) (f : X → X) → ((x : X) → g (f x) ≡ g x) → (o : Option X)
    → option_and_then g (option_map f o) ≡ option_and_then g o
then_unseen g f h None = refl
then_unseen g f h (Some x) = h x

-- and of a value that may be changed
pub unseen : {X A : Type 0} (g : X → A) (f : X → X) → ((x : X) → g (f x) ≡ g x) → (b : Bool) (x : X)
    → g (if b then f x else x) ≡ g x
unseen g f h true x = h x
unseen g f h false x = refl
