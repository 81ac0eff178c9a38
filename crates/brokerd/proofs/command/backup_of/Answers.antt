use Rattle.std.proofs.Common.{◌∙◌, codes, inl, inr, refl, sym}
use Rattle.clap.specs.Words.{found_of}
use Rattle.clap.proofs.WalkLemmas.{first_value-rows}
use Rattle.brokerd.proofs.command.backup_of.Goals as goal

pub returns-in_err-db : goal.returns-in_err-db
returns-in_err-db c =
    let f = found_of c.args.found.now in
    rw (c.from_residual.ensures) (inl (sym (c.in_err-db.ensures ∙ first_value-rows f (codes "db"))))

pub returns-in_err-to : goal.returns-in_err-to
returns-in_err-to c =
    let f = found_of c.args.found.now in
    rw (c.from_residual-in_err-to.ensures) (inr (inl (sym (c.in_err-to.ensures ∙ first_value-rows f (codes "to")))))

pub returns-in_err-keep : goal.returns-in_err-keep
returns-in_err-keep c =
    rw (c.from_residual-in_err-keep.ensures) (inr (inr (c.in_err-keep.ensures.none refl)))

pub returns : goal.returns
returns c =
    let f = found_of c.args.found.now in (
      sym (c.in_ok-db.ensures ∙ first_value-rows f (codes "db")),
      sym (c.in_ok-to.ensures ∙ first_value-rows f (codes "to")),
      c.in_ok-keep.ensures.some,
    )
