-- Laws of a map from texts with one more value.
use Rattle.std.proofs.Common.{◌≡◌, ◌≢◌, true, false, cond, Some, None, refl, sym, ◌∙◌, ap}
use Rattle.broker_types.specs.Words.{none-some, same_Some, Text, same, Map, get, put}
use Rattle.broker_types.specs.MapLaws.{get-put, get-put_self}
use Rattle.broker_types.specs.TextLaws.{same_true}

module _ {X : Type 0} (m : Map X) (k : Text) (x : X) where
  -- a value of the map with x at k is x, or it was there
  pub put_is : (q : Text) (y : X) (P : Type 0) → get (put m k x) q ≡ Some y → (q ≡ k → y ≡ x → P)
      → (get m q ≡ Some y → P) → P
  put_is q y P is first rest =
      elim (same q k) as (λ v. same q k ≡ v → cond v (Some x) (get m q) ≡ Some y → P) [
        | true ↦ λ at e. first (same_true q k at) (sym (same_Some _ _ e))
        | false ↦ λ _ e. rest e
      ] refl (sym (get-put m k x q) ∙ is)

  -- k has a value
  pub put_there : get (put m k x) k ≢ None
  put_there none = none-some _ (sym none ∙ get-put_self m k x)

  -- and so has each key that had one
  pub put_keeps : (q : Text) → get m q ≢ None → get (put m k x) q ≢ None
  put_keeps q there none =
      elim (same q k) as (λ v. cond v (Some x) (get m q) ≡ None → ⊥) [
        | true ↦ λ e. none-some _ (sym e)
        | false ↦ λ e. there e
      ] (sym (get-put m k x q) ∙ none)

  -- and no other
  pub put_filled : (q : Text) (P : Type 0) → get (put m k x) q ≢ None → (q ≡ k → P) → (get m q ≢ None → P) → P
  put_filled q P there first rest =
      elim (same q k) as (λ v. same q k ≡ v → P) [
        | true ↦ λ at. first (same_true q k at)
        | false ↦ λ other. rest
            (λ none. there (get-put m k x q ∙ ap (λ v. cond v (Some x) (get m q)) other ∙ none))
      ] refl
