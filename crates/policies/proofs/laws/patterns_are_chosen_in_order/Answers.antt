use Rattle.policies.proofs.PatternsChosen.{is_longest, exact_first, folder_first, then_path, chosen_named, prefix_found}
use Rattle.policies.proofs.PatternsChosen.{own_path}
use Rattle.policies.proofs.laws.patterns_are_chosen_in_order.Goals as goal

pub returns-clause-exact : goal.returns-clause-exact
returns-clause-exact c = exact_first

pub returns-clause-folder : goal.returns-clause-folder
returns-clause-folder c = folder_first

pub returns-clause-path : goal.returns-clause-path
returns-clause-path c = then_path

pub returns-clause-prefix : goal.returns-clause-prefix
returns-clause-prefix c = is_longest

pub returns-clause-named : goal.returns-clause-named
returns-clause-named c = chosen_named

pub returns-clause-found : goal.returns-clause-found
returns-clause-found c = prefix_found

pub returns-clause-own_path : goal.returns-clause-own_path
returns-clause-own_path c = own_path
