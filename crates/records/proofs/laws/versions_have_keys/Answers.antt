use Rattle.records.specs.Words.{version_of_digits-padded, digits_are, name_lacks, line_feed, split-lacking}
use Rattle.records.proofs.DigitOrder.{padded_order}
use Rattle.records.proofs.laws.versions_have_keys.Goals as goal

pub returns-clause-told : goal.returns-clause-told
returns-clause-told c = version_of_digits-padded

pub returns-clause-exact : goal.returns-clause-exact
returns-clause-exact c = digits_are

pub returns-clause-order : goal.returns-clause-order
returns-clause-order c = padded_order

pub returns-clause-split : goal.returns-clause-split
returns-clause-split c = λ q digits name. split-lacking line_feed q digits (name_lacks q name)
