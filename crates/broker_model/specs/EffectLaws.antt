-- What follows from what an operation leaves.
use Rattle.std.proofs.Common.{◌≡◌, Option, Some, None, option_and_then, refl, sym, ◌∙◌, ap, subst, inl, arith}
use Rattle.records.specs.Words.{none-some, same_Some, Map, get, Key, Version, Token}
use Rattle.broker_model.specs.Effects.{Both, SecretsStay, VersionsStay}

-- the value that an option leads to
pub chained : {X Y : Type 0} (f : X → Option Y) (o : Option X) (y : Y) → option_and_then f o ≡ Some y
    → (x : X) × (o ≡ Some x) × (f x ≡ Some y)
chained f None y e = absurd (none-some y e)
chained f (Some x) y e = (x, refl, e)

-- a token that stays was there
pub both_there : (P : Token → Token → Type 0) (o : Option Token) (y : Token) → Both P o (Some y)
    → (x : Token) × (o ≡ Some x) × P x y
both_there P None y both = absurd both
both_there P (Some x) y both = (x, refl, both)

-- ---- secrets that stay as they are

pub versions_self : (k : Key) → VersionsStay k k
versions_self k = record {
  current = omega (arith);
  numbers = λ n there. inl there;
  held = λ n v w one other. inl (ap (λ (x : Version). x.secret) (same_Some _ _ (sym other ∙ one)));
}

pub it_stays : (k m : Key) → m ≡ k → VersionsStay k m
it_stays k m is = subst (VersionsStay k) (sym is) (versions_self k)

pub secrets_same : (ks ms : Map Key) → ms ≡ ks → SecretsStay ks ms
secrets_same ks ms is q k m one other =
    it_stays k m (same_Some _ _ (sym other ∙ ap (λ (z : Map Key). get z q) is ∙ one))
