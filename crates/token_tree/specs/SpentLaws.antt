-- What the row of a token says once a use is spent.
use Rattle.std.proofs.Common.{◌≡◌, if◌then◌else◌, Bool, true, Option, Some, None, option_map, refl, sym, ◌∙◌, ap}
use Rattle.records.specs.Words.{Broker, get, get-change, mapped_none, spend, one_less, Text, same_self, Token}
use Rattle.records.specs.Words.{entry_row, Table, token_entry}
use Rattle.records.specs.declared.kind.Kind.TheVariants as kind
use Rattle.token_tree.specs.TokenRows.{SpendsUse, spent_entry, with_entry}

-- where nothing is left, there was no row, and no other has changed
pub nothing_spent : (t : Text) (old new : Table) → SpendsUse t old new None → (old kind.Token t ≡ None) × (new ≡ old)
nothing_spent t old new s = (
  s.changes.was ∙ ap (option_map entry_row) (mapped_none spent_entry s.changes.entry (sym s.told)),
  s.changes.is ∙ ap (with_entry old t) (sym s.told),
)

-- what is left of a token of a broker is what its token says once the use is spent
pub left_entry : (b : Broker) (t : Text) → option_map spent_entry (option_map token_entry (get b.tokens t))
    ≡ option_map token_entry (get (spend b t).tokens t)
left_entry b t =
    less (same_self t) (get b.tokens t) ∙ ap (option_map token_entry) (sym (get-change b.tokens t one_less t))
  where
    less : {v : Bool} → v ≡ true → (o : Option Token) → option_map spent_entry (option_map token_entry o)
        ≡ option_map token_entry (option_map (λ x. if v then one_less x else x) o)
    less {v} is None = refl
    less {v} is (Some x) = ap (λ u. Some (token_entry (if u then one_less x else x))) (sym is)
