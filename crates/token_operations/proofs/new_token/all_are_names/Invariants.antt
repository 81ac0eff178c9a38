use Rattle.std.proofs.Common.{◌≡◌, drop}
use Rattle.broker_model.specs.Words.{list_all}
use Rattle.broker_types.specs.Name as names
use Rattle.token_operations.proofs.new_token.all_are_names.Given as goal

abbrev pub invariant-loop-text : goal.invariant-loop-text
invariant-loop-text l = list_all names.is_name l.texts ≡ list_all names.is_name (drop l.text-index l.texts)
