-- Objects that rows tell.
use Rattle.std.proofs.Common.{◌≡◌, length, drop, Option, Some, None, is_some, option_map, option_and_then, refl, sym}
use Rattle.records.specs.Words.{◌∙◌, ap, inl, inr, none-some, same_Some, Text, get, Token, found_or_not, Broker, Forms}
use Rattle.records.specs.Words.{SoundTokens, IsShortText, of_cubbyholes, Tells, cubby_row, token_len, count, Table}
use Rattle.records.specs.declared.kind.Kind.TheVariants as kind
use Rattle.cubbyhole.specs.Words.{Row, object_at, object_key, IsObjectAt}
use Rattle.cubbyhole.proofs.ObjectRows.{row_at}

-- the object after its length, and equal rows have equal objects
after_length : (t x : Text) → drop 5 (cubby_row t x).body ≡ x
unfolding count
after_length t x = refl

same_object : (t x y : Text) → cubby_row t x ≡ cubby_row t y → x ≡ y
same_object t x y e = sym (after_length t x) ∙ ap (λ (r : Row). drop 5 r.body) e ∙ after_length t y

pub same_option : (t : Text) (o p : Option Text) → option_map (cubby_row t) o ≡ option_map (cubby_row t) p → o ≡ p
same_option t None None e = refl
same_option t None (Some y) e = absurd (none-some _ e)
same_option t (Some x) None e = absurd (none-some _ (sym e))
same_option t (Some x) (Some y) e = ap Some (same_object t x y (same_Some _ _ e))

-- what the broker has at the path is what the row there keeps
pub object_told : (rows : Table) (b : Broker) (t path : Text) (object : Option Text) → Tells of_cubbyholes rows b
    → length t ≡ token_len
    → IsObjectAt rows t path object → object ≡ object_at b t path
object_told rows b t path object told len is =
    same_option t object (object_at b t path) (sym is ∙ told kind.Cubby (object_key t path) refl ∙ row_at b t path len)

-- there is a row where the broker has an object
pub object_there : (rows : Table) (b : Broker) (t path : Text) → Tells of_cubbyholes rows b → length t ≡ token_len
    → is_some (rows kind.Cubby (object_key t path)) ≡ is_some (object_at b t path)
object_there rows b t path told len = ap is_some (told kind.Cubby (object_key t path) refl ∙ row_at b t path len)
    ∙ of_object (object_at b t path)
  where
    of_object : (o : Option Text) → is_some (option_map (cubby_row t) o) ≡ is_some o
    of_object None = refl
    of_object (Some object) = refl

-- and where the broker is sound, a row that is there can be read
pub object_kept : (forms : Forms) (rows : Table) (b : Broker) (t path : Text) (row : Row) → SoundTokens forms b.tokens
    → Tells of_cubbyholes rows b
    → length t ≡ token_len → rows kind.Cubby (object_key t path) ≡ Some row → (object : Text) × IsShortText object
    × (row ≡ cubby_row t object)
object_kept forms rows b t path row sound told len is = by_object (object_at b t path) refl
    (sym is ∙ told kind.Cubby (object_key t path) refl ∙ row_at b t path len)
  where
    short : (object : Text) → object_at b t path ≡ Some object → IsShortText object
    short object e = elim (found_or_not (get b.tokens t)) [
      | inl none ↦ absurd (none-some _ (sym (ap (option_and_then (λ (x : Token). get x.cubbyhole path)) none) ∙ e))
      | inr x ↦ ((sound.each t x.0 x.1).cubbyhole path object
          (sym (ap (option_and_then (λ (x : Token). get x.cubbyhole path)) x.1) ∙ e)).1.short
    ]

    by_object : (o : Option Text) → object_at b t path ≡ o → Some row ≡ option_map (cubby_row t) o
        → (object : Text) × IsShortText object × (row ≡ cubby_row t object)
    by_object None at e = absurd (none-some _ (sym e))
    by_object (Some object) at e = (object, short object at, same_Some _ _ e)
