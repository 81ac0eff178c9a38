use Rattle.std.proofs.Common.{codes}
use Rattle.clap.specs.Words.{found_of, one_text}
use Rattle.clap.proofs.WalkLemmas.{one_text-rows}
use Rattle.brokerd.proofs.NumberLemmas.{Reads, counted, uncounted}
use Rattle.brokerd.proofs.command.places.Goals as goal

pub returns-in_default-clause-none : goal.returns-in_default-clause-none
returns-in_default-clause-none c = λ _.
    let f = found_of c.args.found.now in
    let given = uncounted Reads (one_text f (codes "at-once")) c.in_default.field-0
    (λ t g. g.0) c.in_default.ensures.none c.in_default.ensures.value in
    rw (← one_text-rows f (codes "at-once")) given

pub returns-clause-some : goal.returns-clause-some
returns-clause-some c =
    let f = found_of c.args.found.now in
    let given = counted 1024 Reads (one_text f (codes "at-once")) c.in-Ok.given
    (λ t v g. (g.0.0, g.0.1)) c.in-Ok.ensures.none c.in-Ok.ensures.value in
    rw (c.unwrap_or.ensures, ← one_text-rows f (codes "at-once")) given
