-- What is done with the token of an accessor.
use Rattle.std.proofs.Common.{◌≡◌, Option, Some, None, Result, Err, refl, sym, subst}
use Rattle.broker_model.specs.Words.{Broker, Done, ◌>>=◌, some_or, Text, Refusal, RequestError, Refused, Rows}
use Rattle.broker_model.specs.Words.{find_accessor, named}
use Rattle.broker_types.specs.declared.refusal.Refusal.TheVariants as refusal
use Rattle.broker_types.specs.declared.refusal.Reason.TheVariants as reason
use Rattle.broker_rows.specs.Words.{ActsAs, Represents}
use Rattle.broker_rows.specs.declared.answered.Answered.{Answered}

module _ (who : Option Text) (b : Broker) (rows : Rows) (accessor : Text) (does : Text → Result Done Refusal) where
  -- it is done with the token that the accessor names
  pub acts_on_named : (t : Text) (result : Result Answered RequestError) → find_accessor b accessor ≡ Some t
      → ActsAs who b rows result (does t) → ActsAs who b rows result (named b accessor >>= does)
  acts_on_named t result is acts =
      subst (λ o. ActsAs who b rows result (some_or (refusal.BadRequest reason.InvalidAccessor) o >>= does))
      (sym is) acts

  -- and an accessor of none is refused
  pub acts_on_none : find_accessor b accessor ≡ None → Represents who rows b
      → ActsAs who b rows (Err (Refused (refusal.BadRequest reason.InvalidAccessor))) (named b accessor >>= does)
  acts_on_none is st =
      subst (λ o. ActsAs who b rows (Err (Refused (refusal.BadRequest reason.InvalidAccessor)))
      (some_or (refusal.BadRequest reason.InvalidAccessor) o >>= does)) (sym is) (refl, st)
