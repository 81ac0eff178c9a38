use Rattle.std.proofs.Common.{◌∙◌, inl, inr, List, ℕ, Option, Some, None, option_map, ◌≡◌, ◌≢◌, sym}
use Rattle.std.proofs.Common.{refl, ap, codes, Bor}
use Rattle.clap.specs.Words.{found_of, one_text}
use Rattle.clap.proofs.WalkLemmas.{first_value-rows, one_text-rows}
use Rattle.brokerd.proofs.FlagLemmas.{given_of, is_flag}
use Rattle.brokerd.proofs.command.serve_of.Goals as goal

none_of : {X : Type 0} (o : Option X) → ((x : X) → o ≢ Some x) → o ≡ None
none_of None never = refl
none_of (Some x) never = absurd (never x refl)

pub returns-in_default : goal.returns-in_default
returns-in_default c =
    let f = found_of c.args.found.now in
    let none = none_of c.get_str.result c.in_default.not-Some in
    inl (sym (c.get_str.ensures ∙ first_value-rows f (codes "listen")) ∙ ap (option_map _) none)

pub returns-in_err-check : goal.returns-in_err-check
returns-in_err-check c = rw (c.from_residual.ensures) (inr (inr (inr (inr (c.in_err-check.ensures.none refl)))))

pub returns-in_err-count : goal.returns-in_err-count
returns-in_err-count c = rw (c.from_residual-in_err-count.ensures) (inr (inl (c.in_err-count.ensures.none refl)))

pub returns-in_err-places : goal.returns-in_err-places
returns-in_err-places c =
    rw (c.from_residual-in_err-places.ensures) (inr (inr (inl (c.in_err-places.ensures.none refl))))

pub returns-in_err-log_form : goal.returns-in_err-log_form
returns-in_err-log_form c =
    rw (c.from_residual-in_err-log_form.ensures) (inr (inr (inr (inl (c.in_err-log_form.ensures.none refl)))))

pub returns : goal.returns
returns c =
    let f = found_of c.args.found.now in (
      c.get_str-2.ensures ∙ first_value-rows f (codes "db"),
      sym (c.get_str.ensures ∙ first_value-rows f (codes "listen"))
          ∙ ap (λ (o : Option (Bor (List ℕ))). option_map (λ s. s.now) o) c.in-Some.is,
      c.in_ok-count.ensures.some,
      c.is_some.ensures
          ∙ given_of c.get_str-3.result _ (c.get_str-3.ensures ∙ first_value-rows f (codes "connections")),
      c.in_ok-places.ensures.some,
      rw (← one_text-rows f (codes "stop-on-input"))
          (is_flag (one_text f (codes "stop-on-input")) c.get_flag.result c.get_flag.ensures.none
          c.get_flag.ensures.other c.get_flag.ensures.value),
      c.is_logged.ensures,
      c.in_ok-log_form.ensures.some,
      c.get_str-4.ensures ∙ first_value-rows f (codes "log-file"),
      c.get_str-5.ensures ∙ first_value-rows f (codes "status"),
      c.in_ok-check.ensures.some,
      c.unwrap_or.ensures,
    )
