use Rattle.std.proofs.Common.{◌-◌, ◌∙◌, ℕ, List, [], drop, length, ap, sym, le_of_eq, Option, option_map, take_all}
use Rattle.broker_types.specs.Words.{option_map_or, length-drop}
use Rattle.http_layer.proofs.query.version_asked.Goals as goal

abbrev version_in : Option (List ℕ) → List ℕ
version_in part = option_map_or (drop 8) part []

pub returns-in-Some : goal.returns-in-Some
returns-in-Some c =
    take_all (length c.in-Some.part.now - 8) (drop 8 c.in-Some.part.now) (le_of_eq (length-drop 8 c.in-Some.part.now))
    ∙ ap (λ p. version_in (option_map (λ q. q.now) p)) (sym c.in-Some.is) ∙ ap version_in c.version_part.ensures.first

pub returns-in-None : goal.returns-in-None
returns-in-None c = ap (λ p. version_in (option_map (λ q. q.now) p)) (sym c.in-None.is)
    ∙ ap version_in c.version_part.ensures.first
