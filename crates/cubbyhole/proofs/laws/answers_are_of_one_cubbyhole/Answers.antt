use Rattle.records.specs.Words.{◌∙◌, ap, sym, is_some}
use Rattle.cubbyhole.specs.Words.{object_key}
use Rattle.cubbyhole.proofs.ObjectKeys.{begins}
use Rattle.cubbyhole.proofs.ObjectsTold.{same_option}
use Rattle.cubbyhole.proofs.OneCubbyhole.{listed_alike}
use Rattle.cubbyhole.proofs.laws.answers_are_of_one_cubbyhole.Goals as goal

pub returns-clause-read : goal.returns-clause-read
returns-clause-read c rows others t path x y one is also =
    same_option t x y (sym is ∙ one (object_key t path) (begins t path) ∙ also)

pub returns-clause-damaged : goal.returns-clause-damaged
returns-clause-damaged c rows others t path one damaged object short is =
    damaged object short (one (object_key t path) (begins t path) ∙ is)

pub returns-clause-there : goal.returns-clause-there
returns-clause-there c rows others t path one = ap is_some (one (object_key t path) (begins t path))

pub returns-clause-lists : goal.returns-clause-lists
returns-clause-lists c rows others t path one = listed_alike rows others t path one
