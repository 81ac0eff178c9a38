-- Responses that wait: from what is found to what the commands answer.
use Rattle.std.proofs.Common.{◌≡◌, Option, Some, None, Ok, Err, option_map, refl, sym, subst}
use Rattle.broker_model.specs.Words.{Broker, Waiting, get, Done, ◌>>=◌, some_or, Text, Refusal, Refused, Rows}
use Rattle.broker_model.specs.Words.{FoundResponse, found, found_under}
use Rattle.broker_types.specs.declared.refusal.Refusal.TheVariants as refusal
use Rattle.broker_types.specs.declared.refusal.Reason.TheVariants as reason
use Rattle.broker_rows.specs.Words.{IsDone, ActsAs, Represents}
use Rattle.broker_rows.specs.declared.answered.Answered as Code

-- 400 `wrapping token is not valid or does not exist`
abbrev pub not_waiting : Refusal
not_waiting = refusal.BadRequest reason.InvalidWrappingToken

module _ (b : Broker) (who : Option Text) (rows : Rows) (t : Text) (f : FoundResponse → Done) where
  -- what is done with the response of t, or the refusal if there is none
  abbrev acts : Code.Answered → Option Waiting → Type 0
  acts a o = ActsAs who b rows (Ok a) (some_or not_waiting (option_map (found_under t) o) >>= (λ x. Ok (f x)))

  -- a response that waits is acted on
  pub acts_on_found : (w : Waiting) (a : Code.Answered) → get b.waiting t ≡ Some w
      → IsDone who rows a (f (found_under t w)) → ActsAs who b rows (Ok a) (found b (Some t) >>= (λ x. Ok (f x)))
  acts_on_found w a is done = subst (acts a) (sym is) done

  -- and where none does, that is refused
  pub acts_on_none : get b.waiting t ≡ None → Represents who rows b
      → ActsAs who b rows (Err (Refused not_waiting)) (found b (Some t) >>= (λ x. Ok (f x)))
  acts_on_none none st =
      subst
      (λ o. ActsAs who b rows (Err (Refused not_waiting))
      (some_or not_waiting (option_map (found_under t) o) >>= (λ x. Ok (f x))))
      (sym none) (refl, st)
