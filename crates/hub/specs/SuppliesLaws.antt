-- Events that are supplied one after another: lemmas for proofs here and above.
use Rattle.std.proofs.Common.{◌∷◌, ◌++◌, ℕ, List, [], map, refl, sym, subst}
use Rattle.broker_model.specs.Words.{map-append, Words}
use Rattle.hub.specs.Supplies.{GivesInTurn, Supplies}
use Rattle.hub.specs.declared.event.Event.{Event}

pub GivesInTurn-append : {S A : Type 0} (gives : S → A → S → Type 0) (s mid t : S) (xs ys : List A)
    → GivesInTurn gives s mid xs → GivesInTurn gives mid t ys → GivesInTurn gives s t (xs ++ ys)
GivesInTurn-append {S} gives s mid t [] ys first second = subst (λ (u : S). GivesInTurn gives u t ys) first second
GivesInTurn-append gives s mid t (x ∷ xs) ys (next, one, first) second =
    (next, one, GivesInTurn-append gives next mid t xs ys first second)

-- no event
pub Supplies-nil : {C D : Type 0} (may_tell : C → ℕ → C → Type 0) (clock : C) (may_give : D → Words → D → Type 0)
    (words : D) → Supplies may_tell clock clock may_give words words []
Supplies-nil may_tell clock may_give words = record { moments = refl; drawings = refl }

-- one event
pub Supplies-one : {C D : Type 0} (may_tell : C → ℕ → C → Type 0) (clock clock_after : C)
    (may_give : D → Words → D → Type 0) (words words_after : D) (e : Event)
    → may_tell clock e.moment clock_after → may_give words e.words words_after
    → Supplies may_tell clock clock_after may_give words words_after (e ∷ [])
Supplies-one may_tell clock clock_after may_give words words_after e told given =
    record { moments = (clock_after, told, refl); drawings = (words_after, given, refl) }

-- events, and others after them
pub Supplies-append : {C D : Type 0} (may_tell : C → ℕ → C → Type 0) (clock clock_mid clock_after : C)
    (may_give : D → Words → D → Type 0) (words words_mid words_after : D) (es fs : List Event)
    → Supplies may_tell clock clock_mid may_give words words_mid es
    → Supplies may_tell clock_mid clock_after may_give words_mid words_after fs
    → Supplies may_tell clock clock_after may_give words words_after (es ++ fs)
Supplies-append may_tell clock clock_mid clock_after may_give words words_mid words_after es fs first second =
    record {
      moments = subst (GivesInTurn may_tell clock clock_after) (sym (map-append (λ (e : Event). e.moment) es fs))
          (GivesInTurn-append may_tell clock clock_mid clock_after (map (λ (e : Event). e.moment) es)
          (map (λ (e : Event). e.moment) fs) first.moments second.moments);
      drawings = subst (GivesInTurn may_give words words_after) (sym (map-append (λ (e : Event). e.words) es fs))
          (GivesInTurn-append may_give words words_mid words_after (map (λ (e : Event). e.words) es)
          (map (λ (e : Event). e.words) fs) first.drawings second.drawings);
    }
