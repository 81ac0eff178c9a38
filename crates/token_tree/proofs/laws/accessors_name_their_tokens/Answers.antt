use Rattle.token_tree.proofs.Names.{names_token_of, named_has}
use Rattle.token_tree.proofs.laws.accessors_name_their_tokens.Goals as goal

pub returns-clause-named : goal.returns-clause-named
returns-clause-named c b t x one_place is = names_token_of b one_place t x is

pub returns-clause-only : goal.returns-clause-only
returns-clause-only c b t accessor is = named_has b t accessor is
