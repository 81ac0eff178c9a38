-- Laws of options.
use Rattle.std.specs.Prelude.{◌≡◌, ◌⊎◌, ◌||◌, if◌then◌else◌, Bool, true, false, Option, Some, None, option_map, is_none}
use Rattle.broker_types.specs.Words.{is_some, IfSome, IfNone, refl, inl, inr, sym, ap, subst, or-false, false≢true}
use Rattle.broker_types.specs.Words.{none-some, same_Some}

-- an option is none, or has a value
pub found_or_not : {X : Type 0} (o : Option X) → (o ≡ None) ⊎ ((x : X) × (o ≡ Some x))
found_or_not None = inl refl
found_or_not (Some x) = inr (x, refl)

pub is_nothing : {X : Type 0} (o : Option X) → is_none o ≡ true → o ≡ None
is_nothing None h = refl
is_nothing (Some x) h = absurd (false≢true h)

-- the same of the other test
pub not_there : {X : Type 0} (o : Option X) → is_some o ≡ false → o ≡ None
not_there None h = refl
not_there (Some x) h = absurd (false≢true (sym h))

pub is_there : {X : Type 0} (o : Option X) → is_some o ≡ true → (x : X) × (o ≡ Some x)
is_there None h = absurd (false≢true h)
is_there (Some x) h = (x, refl)

-- what is said of the value of an option, and what if it has none
pub of_some : {X : Type 0} (P : X → Type 0) (o : Option X) (x : X) → o ≡ Some x → IfSome o P → P x
of_some P o x is p = subst (λ q. IfSome q P) is p

pub of_none : {X P : Type 0} (o : Option X) → o ≡ None → IfNone o P → P
of_none None is p = p
of_none (Some x) is p = absurd (none-some x (sym is))

pub if_none_weaker : {X P Q : Type 0} (o : Option X) → (P → Q) → IfNone o P → IfNone o Q
if_none_weaker None f p = f p
if_none_weaker (Some x) f p = tt

-- what one test takes out, and then another
pub taken_out_twice : {X : Type 0} (a b : Bool) (o : Option X)
    → (if a then None else (if b then None else o)) ≡ (if (b || a) then None else o)
taken_out_twice true true o = refl
taken_out_twice true false o = refl
taken_out_twice false b o = ap (λ v. if v then None else o) (sym (or-false b))

module _ {X Y : Type 0} where
  -- the value of a mapped option
  pub mapped : (f : X → Y) (o : Option X) (y : Y) → option_map f o ≡ Some y → (x : X) × (o ≡ Some x) × (y ≡ f x)
  mapped f None y e = absurd (none-some y e)
  mapped f (Some x) y e = (x, refl, sym (same_Some _ _ e))

  -- a mapped option is none only if the option is
  pub mapped_none : (f : X → Y) (o : Option X) → option_map f o ≡ None → o ≡ None
  mapped_none f None e = refl
  mapped_none f (Some x) e = absurd (none-some _ (sym e))
