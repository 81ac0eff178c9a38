use Rattle.std.proofs.Common.{◌∙◌, codes, sym}
use Rattle.clap.specs.Words.{found_of}
use Rattle.clap.proofs.WalkLemmas.{first_value-rows}
use Rattle.brokerd.proofs.command.export_of.Goals as goal

pub returns-in_err-db : goal.returns-in_err-db
returns-in_err-db c =
    let f = found_of c.args.found.now in
    rw (c.from_residual.ensures) (sym (c.in_err-db.ensures ∙ first_value-rows f (codes "db")))

pub returns : goal.returns
returns c = sym (c.in_ok-db.ensures ∙ first_value-rows (found_of c.args.found.now) (codes "db"))
