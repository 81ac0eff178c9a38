use Rattle.std.proofs.Common.{◌∙◌, ◌||◌, Bool, ap₂, codes}
use Rattle.clap.specs.Words.{found_of, one_text}
use Rattle.clap.proofs.WalkLemmas.{first_value-rows, one_text-rows}
use Rattle.brokerd.proofs.FlagLemmas.{given_of, is_flag}
use Rattle.brokerd.proofs.command.is_logged.Goals as goal

pub returns : goal.returns
returns c =
    let f = found_of c.args.found.now in
    let flag = c.get_flag-flag.result in
    let format = c.is_some-has_format.ensures
    ∙ given_of c.get_str.result _ (c.get_str.ensures ∙ first_value-rows f (codes "log-format")) in
    let file = c.is_some-has_file.ensures
    ∙ given_of c.get_str-2.result _ (c.get_str-2.ensures ∙ first_value-rows f (codes "log-file")) in (
      flag,
      rw (← one_text-rows f (codes "log"))
          (is_flag (one_text f (codes "log")) flag c.get_flag-flag.ensures.none c.get_flag-flag.ensures.other
          c.get_flag-flag.ensures.value),
      c.is_any.ensures ∙ ap₂ (λ (a : Bool) (b : Bool). flag || a || b) format file,
    )
