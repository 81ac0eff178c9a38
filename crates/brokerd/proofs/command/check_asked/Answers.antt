use Rattle.std.proofs.Common.{◌≡◌, Bool, None, Some, codes, false, rules, true}
use Rattle.clap.specs.Words.{Text, found_of, one_of, one_text, rows_of}
use Rattle.clap.specs.declared.parser.matches.Found.{Found}
use Rattle.clap.proofs.WalkLemmas.{one_text-rows}
use Rattle.brokerd.specs.CommandLine.{IsNotSet, IsSet}
use Rattle.brokerd.proofs.FlagLemmas.{not_set, set}
use Rattle.brokerd.proofs.command.check_asked.Goals as goal

is_set : (f : Found) (name : Text) (flag : Bool) → (one_text f name ≡ None → flag ≡ false)
    → (one_text f name ≡ Some (codes "false") → flag ≡ false) → flag ≡ true → IsSet (one_of name (rows_of f))
is_set f name flag none other is = rw (← one_text-rows f name) (set (one_text f name) flag none other is)

is_not : (f : Found) (name : Text) (flag : Bool) → (one_text f name ≡ Some (codes "true") → flag ≡ true)
    → flag ≡ false → IsNotSet (one_of name (rows_of f))
is_not f name flag value is = rw (← one_text-rows f name) (not_set (one_text f name) flag value is)

pub returns-in-true-true-clause-none : goal.returns-in-true-true-clause-none
returns-in-true-true-clause-none c =
    let f = found_of c.args.found.now in
    λ _. (
      is_set f (codes "check") c.get_flag.result c.get_flag.ensures.none c.get_flag.ensures.other (search rules),
      is_set f (codes "unchecked") c.get_flag-2.result c.get_flag-2.ensures.none c.get_flag-2.ensures.other
          (search rules),
    )

pub returns-in-true-false-clause-some : goal.returns-in-true-false-clause-some
returns-in-true-false-clause-some c =
    let f = found_of c.args.found.now in (
      is_set f (codes "check") c.get_flag.result c.get_flag.ensures.none c.get_flag.ensures.other (search rules),
      is_not f (codes "unchecked") c.get_flag-2.result c.get_flag-2.ensures.value (search rules),
    )

pub returns-in-false-true-clause-some : goal.returns-in-false-true-clause-some
returns-in-false-true-clause-some c =
    let f = found_of c.args.found.now in (
      is_not f (codes "check") c.get_flag.result c.get_flag.ensures.value (search rules),
      is_set f (codes "unchecked") c.get_flag-2.result c.get_flag-2.ensures.none c.get_flag-2.ensures.other
          (search rules),
    )

pub returns-in-false-false-clause-some : goal.returns-in-false-false-clause-some
returns-in-false-false-clause-some c =
    let f = found_of c.args.found.now in (
      is_not f (codes "check") c.get_flag.result c.get_flag.ensures.value (search rules),
      is_not f (codes "unchecked") c.get_flag-2.result c.get_flag-2.ensures.value (search rules),
    )
