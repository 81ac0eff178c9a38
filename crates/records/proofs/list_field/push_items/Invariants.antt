use Rattle.std.proofs.Common.{◌≡◌, ◌++◌, drop, All}
use Rattle.records.specs.Words.{items}
use Rattle.records.proofs.list_field.push_items.Given as goal

-- what is written and what is to be written
abbrev pub invariant-loop-x : goal.invariant-loop-x
invariant-loop-x g l =
    record {
      written : l.body.items ++ items g.F.Spell.spell (drop l.x-index l.items) ≡ l.initial.body.items
          ++ items g.F.Spell.spell l.items;
      fit : All g.F.Spell.fits (drop l.x-index l.items);
    }
