-- The route of a path, step by step.
use Rattle.std.proofs.Common.{◌≡◌, List, Option, Some, None, Result, Ok, Err, refl, sym, ◌∙◌, ap, subst}
use Rattle.records.specs.Words.{⊤, Text, Mount, ◌>>=◌, some_or, EndsOk, EndsRefused, Verb, Refusal}
use Rattle.broker_types.specs.declared.refusal.Refusal.TheVariants as refusal
use Rattle.mounts.specs.Words.{MountType, pattern_found, Route, cut, route_by, within, route_at, RouteRow, route_rows}
use Rattle.mounts.specs.Words.{type_at}

-- ---- how the code ends

pub ends_refused : {Y : Type 0} (m : Result Y Refusal) (r : Refusal) → m ≡ Err r → EndsRefused ⊤ r m
ends_refused m r is = subst (λ z. EndsRefused ⊤ r z) (sym is) (refl, tt)

pub ends_found : (m : Result Route Refusal) (r : Route) → m ≡ Ok r → EndsOk (λ (found known : Route). found ≡ known) r m
ends_found m r is = subst (λ z. EndsOk (λ (found known : Route). found ≡ known) r z) (sym is) refl

-- ---- the mount

module _ (o : Option Mount) (v : Verb) (path name rest : Text) where
  pub route_none : name ≡ (cut path).0 → type_at o name ≡ None → route_at o v path ≡ Err refusal.NotFound
  unfolding route_at
  route_none n h =
      ap (λ q. some_or refusal.NotFound (type_at o q) >>=
      (λ type. within (route_rows type) v (cut path).0 (cut path).1)) (sym n)
      ∙ ap (λ z. some_or refusal.NotFound z >>= (λ type. within (route_rows type) v (cut path).0 (cut path).1)) h

  pub route_some : (type : MountType) → name ≡ (cut path).0 → rest ≡ (cut path).1 → type_at o name ≡ Some type
      → route_at o v path ≡ within (route_rows type) v name rest
  unfolding route_at
  route_some type n r h =
      (λ i. some_or refusal.NotFound (type_at o (sym n i)) >>= (λ t. within (route_rows t) v (sym n i) (sym r i)))
      ∙ ap (λ z. some_or refusal.NotFound z >>= (λ t. within (route_rows t) v name rest)) h

-- ---- the pattern

module _ (rows : List RouteRow) (v : Verb) (name rest : Text) where
  pub within_none : pattern_found rows rest ≡ None → within rows v name rest ≡ Err refusal.NotFound
  within_none h = ap (λ z. some_or refusal.NotFound z >>= route_by rows v name rest) h

  pub within_some : (pattern : Text) → pattern_found rows rest ≡ Some pattern
      → within rows v name rest ≡ route_by rows v name rest pattern
  within_some pattern h = ap (λ z. some_or refusal.NotFound z >>= route_by rows v name rest) h
