-- Laws of tests and orderings: what their answers say.
use Rattle.std.specs.Prelude.{◌≡◌, ◌&&◌, Bool, true, false, T, refl}
use Rattle.broker_types.specs.Words.{Ordering, Less, Equal, Greater, is_lt, is_eq, false≢true}

-- a test that holds is true
pub T_true : (b : Bool) → T b → b ≡ true
T_true true h = refl
T_true false h = absurd h

-- of two tests that hold, each does
pub T_left : (a b : Bool) → T (a && b) → T a
T_left true b h = tt
T_left false b h = absurd h

pub T_right : (a b : Bool) → T (a && b) → T b
T_right true b h = h
T_right false b h = absurd h

-- what is less is not equal
pub less_apart : (o : Ordering) → T (is_lt o) → is_eq o ≡ false
less_apart Less h = refl
less_apart Equal h = absurd h
less_apart Greater h = absurd h

-- an answer is the one that a test of it names
pub is_less : (o : Ordering) → is_lt o ≡ true → o ≡ Less
is_less Less h = refl
is_less Equal h = absurd (false≢true h)
is_less Greater h = absurd (false≢true h)

pub is_equal : (o : Ordering) → is_eq o ≡ true → o ≡ Equal
is_equal Less h = absurd (false≢true h)
is_equal Equal h = refl
is_equal Greater h = absurd (false≢true h)
