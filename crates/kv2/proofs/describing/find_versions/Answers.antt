use Rattle.records.specs.Words.{sym, subst, IfOk-weaker}
use Rattle.kv2.specs.Words.{AreToldInRange}
use Rattle.kv2.proofs.DescribeCalls.{told_in_range}
use Rattle.kv2.proofs.describing.find_versions.Goals as goal

pub returns-clause-in_range : goal.returns-clause-in_range
returns-clause-in_range g c =
    IfOk-weaker c.versions_in.result _ _ (λ list e. subst AreToldInRange (sym e.2) (told_in_range e.0 e.1.each))
    c.versions_in.ensures.exact
