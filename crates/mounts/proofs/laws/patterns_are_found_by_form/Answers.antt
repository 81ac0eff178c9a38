use Rattle.records.specs.Words.{le_antisymm}
use Rattle.mounts.proofs.FormPatterns.{found_by_form, none_by_form}
use Rattle.mounts.proofs.laws.patterns_are_found_by_form.Goals as goal

pub returns-clause-found : goal.returns-clause-found
returns-clause-found c rows path pattern ordered bytes found = found_by_form rows path ordered bytes pattern found

pub returns-clause-one : goal.returns-clause-one
returns-clause-one c rows path p q is_p is_q =
    is_q.only p is_p.listed is_p.form
    (le_antisymm (is_q.longest p is_p.listed is_p.form) (is_p.longest q is_q.listed is_q.form))

pub returns-clause-none : goal.returns-clause-none
returns-clause-none c rows path pattern ordered bytes none listed =
    none_by_form rows path ordered bytes pattern none listed
