use Rattle.records.specs.Words.{sym, ap, [], unwrap_or, Option, arith, Text}
use Rattle.mounts.specs.Words.{cut_none, cut_some}
use Rattle.mounts.proofs.routing.cut.Goals as goal

pub returns-in-Some-clause-name : goal.returns-in-Some-clause-name
returns-in-Some-clause-name c = sym (ap (λ (o : Option (Text × Text)). (unwrap_or o (c.args.path.now, [])).0)
    (cut_some 47 (omega arith) c.args.path.now c.split_once.result c.split_once.ensures.cases c.in-Some.parts
    c.in-Some.is))

pub returns-in-Some-clause-rest : goal.returns-in-Some-clause-rest
returns-in-Some-clause-rest c = sym (ap (λ (o : Option (Text × Text)). (unwrap_or o (c.args.path.now, [])).1)
    (cut_some 47 (omega arith) c.args.path.now c.split_once.result c.split_once.ensures.cases c.in-Some.parts
    c.in-Some.is))

pub returns-in-None-clause-name : goal.returns-in-None-clause-name
returns-in-None-clause-name c = sym (ap (λ (o : Option (Text × Text)). (unwrap_or o (c.args.path.now, [])).0)
    (cut_none 47 (omega arith) c.args.path.now c.split_once.result c.split_once.ensures.cases c.in-None.is))

pub returns-in-None-clause-rest : goal.returns-in-None-clause-rest
returns-in-None-clause-rest c = sym (ap (λ (o : Option (Text × Text)). (unwrap_or o (c.args.path.now, [])).1)
    (cut_none 47 (omega arith) c.args.path.now c.split_once.result c.split_once.ensures.cases c.in-None.is))
