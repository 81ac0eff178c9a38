use Rattle.std.proofs.Common.{codes}
use Rattle.clap.specs.Words.{found_of, one_text}
use Rattle.clap.proofs.WalkLemmas.{one_text-rows}
use Rattle.brokerd.proofs.NumberLemmas.{Reads, counted_if, uncounted}
use Rattle.brokerd.proofs.command.kept.Goals as goal

pub returns-in-Ok-clause-some : goal.returns-in-Ok-clause-some
returns-in-Ok-clause-some c =
    let f = found_of c.args.found.now in
    let given = counted_if Reads (one_text f (codes "keep")) c.in-Ok.given
    (λ t v g. (g.0.0, g.0.1)) c.in-Ok.ensures.none c.in-Ok.ensures.value in
    rw (← one_text-rows f (codes "keep")) given

pub returns-in-Err-clause-none : goal.returns-in-Err-clause-none
returns-in-Err-clause-none c = λ _.
    let f = found_of c.args.found.now in
    let given = uncounted Reads (one_text f (codes "keep")) c.in-Err.field-0
    (λ t g. g.0) c.in-Err.ensures.none c.in-Err.ensures.value in
    rw (← one_text-rows f (codes "keep")) given
