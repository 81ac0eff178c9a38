use Rattle.std.proofs.Common.{◌≡◌, drop}
use Rattle.broker_model.specs.Words.{list_all, has}
use Rattle.token_operations.proofs.new_token.are_among.Given as goal

abbrev pub invariant-loop-text : goal.invariant-loop-text
invariant-loop-text l = list_all (has l.list) l.texts ≡ list_all (has l.list) (drop l.text-index l.texts)
