use Rattle.records.specs.Words.{sym, ap, Option, arith, Text}
use Rattle.mounts.specs.Words.{cut_none, cut_some, form_from}
use Rattle.mounts.proofs.routing.literal_of.Goals as goal

pub returns-in-Some : goal.returns-in-Some
returns-in-Some c = sym (ap (λ (o : Option (Text × Text)). (form_from c.args.pattern.now o).literal)
    (cut_some 123 (omega arith) c.args.pattern.now c.split_once.result c.split_once.ensures.cases
    (c.in-Some.literal, c.in-Some.field-0-1) c.in-Some.is))

pub returns-in-None : goal.returns-in-None
returns-in-None c = sym (ap (λ (o : Option (Text × Text)). (form_from c.args.pattern.now o).literal)
    (cut_none 123 (omega arith) c.args.pattern.now c.split_once.result c.split_once.ensures.cases c.in-None.is))
