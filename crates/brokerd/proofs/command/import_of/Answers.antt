use Rattle.std.proofs.Common.{◌∙◌, codes, sym}
use Rattle.clap.specs.Words.{found_of, one_text}
use Rattle.clap.proofs.WalkLemmas.{first_value-rows, one_text-rows}
use Rattle.brokerd.proofs.FlagLemmas.{is_flag}
use Rattle.brokerd.proofs.command.import_of.Goals as goal

pub returns-in_err-db : goal.returns-in_err-db
returns-in_err-db c =
    let f = found_of c.args.found.now in
    rw (c.from_residual.ensures) (sym (c.in_err-db.ensures ∙ first_value-rows f (codes "db")))

pub returns : goal.returns
returns c =
    let f = found_of c.args.found.now in (
      sym (c.in_ok-db.ensures ∙ first_value-rows f (codes "db")),
      rw (← one_text-rows f (codes "salvage"))
          (is_flag (one_text f (codes "salvage")) c.get_flag-salvages.result
          c.get_flag-salvages.ensures.none c.get_flag-salvages.ensures.other
          c.get_flag-salvages.ensures.value),
    )
