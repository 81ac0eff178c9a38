use Rattle.broker_types.specs.Words.{Some, sym, ap, ◌∙◌}
use Rattle.broker_types.proofs.Grammar.{of_duration, none_of_duration}
use Rattle.broker_types.proofs.duration.read_duration.Goals as goal

pub returns-in-Some-clause-grammar : goal.returns-in-Some-clause-grammar
returns-in-Some-clause-grammar c = of_duration c.args.text.now c.new.result
    (sym c.seconds_of.ensures.value ∙ c.in-Some.is ∙ ap Some (sym c.new.ensures))

pub returns-in-None-clause-grammar : goal.returns-in-None-clause-grammar
returns-in-None-clause-grammar c = none_of_duration c.args.text.now (sym c.seconds_of.ensures.value ∙ c.in-None.is)
