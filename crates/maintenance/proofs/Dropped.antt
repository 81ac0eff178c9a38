-- Responses that are dropped one after another, until none is left.
use Rattle.std.proofs.Common.{◌≡◌, ◌∷◌, List, [], Bool, true, false, cond, map, Option, None, Some, refl, sym, ◌∙◌, ap}
use Rattle.broker_model.specs.Words.{lookup, get-empty, Text, text_cmp, same, Map, get, empty, entries, keys}
use Rattle.broker_model.specs.Words.{without, Broker}
use Rattle.broker_model.specs.Words.{drop_waiting}
use Rattle.broker_types.specs.MapLaws.{get-without, get-lookup, same_map}
use Rattle.maintenance.specs.Maintained.{dropped_each, responses_of, without_responses}

-- ---- a map without the keys of a list

module _ {X : Type 0} where
  abbrev without_all : List Text → Map X → Map X
  without_all [] m = m
  without_all (t ∷ ts) m = without_all ts (without m t)

  none_still : (v : Bool) (o : Option X) → o ≡ None → cond v None o ≡ None
  none_still true o none = refl
  none_still false o none = none

  -- it has nothing where the map has nothing
  none_left : (ts : List Text) (m : Map X) (q : Text) → get m q ≡ None → get (without_all ts m) q ≡ None
  none_left [] m q none = none
  none_left (t ∷ ts) m q none =
      none_left ts (without m t) q (get-without m t q ∙ none_still (same q t) (get m q) none)

  -- nor at the keys of the list
  all_gone : (es : List (Text × X)) (m : Map X) (q : Text) → get m q ≡ lookup (same q) es
      → get (without_all (map (λ e. e.0) es) m) q ≡ None
  all_gone [] m q is = is
  all_gone (e ∷ es) m q is =
      elim (same q e.0)
      as (λ v. same q e.0 ≡ v → get (without_all (map (λ e. e.0) es) (without m e.0)) q ≡ None) [
        | true ↦ λ at. none_left (map (λ e. e.0) es) (without m e.0) q (rest at)
        | false ↦ λ at. all_gone es (without m e.0) q
            (rest at ∙ is ∙ ap (λ v. cond v (Some e.1) (lookup (same q) es)) at)
      ] refl
    where
      rest : {v : Bool} → same q e.0 ≡ v → get (without m e.0) q ≡ cond v None (get m q)
      rest at = get-without m e.0 q ∙ ap (λ v. cond v None (get m q)) at

  -- so nothing is left without all keys
  nothing_left : (m : Map X) → without_all (keys m) m ≡ empty
  nothing_left m =
      same_map (without_all (keys m) m) empty
      (λ q. all_gone (entries m) m q (get-lookup m q) ∙ sym (get-empty text_cmp q))

-- ---- the responses of a broker

dropped_waiting : (ts : List Text) (b : Broker)
    → dropped_each ts b ≡ record b { waiting = without_all ts b.waiting }
dropped_waiting [] b = refl
dropped_waiting (t ∷ ts) b = dropped_waiting ts (drop_waiting b t)

-- once all were dropped, none waits
pub dropped_all : (b : Broker) → dropped_each (responses_of b) b ≡ without_responses b
dropped_all b =
    dropped_waiting (responses_of b) b ∙ ap (λ ws. record b { waiting = ws }) (nothing_left b.waiting)
