-- What the rows of accessors say.
use Rattle.std.proofs.Common.{◌≡◌, refl, ◌∙◌, ap}
use Rattle.records.specs.Words.{same, accessor_row, number}
use Rattle.records.specs.declared.holder.Holder.{Holder}
use Rattle.records.specs.declared.holder.Holder.TheVariants as holder
use Rattle.records.specs.declared.row.Row.{Row}
use Rattle.token_tree.specs.Accessors.{Named, named_row, is_of_token, names_token}

-- the row of what is named says whether that is a token
pub names_token_is : (x : Named) → names_token (named_row x) ≡ is_of_token x.1
unfolding same number
names_token_is (t, holder.Token) = refl
names_token_is (t, holder.WrappingToken) = refl

-- what the row of an accessor says
pub names_of_row : (row : Row) (what : Holder) → row ≡ accessor_row row.owner what → names_token row ≡ is_of_token what
names_of_row row what is = ap names_token is ∙ names_token_is (row.owner, what)
