-- Laws of operations that look for something.
use Rattle.std.proofs.Common.{◌≡◌, Option, Some, None, Result, Ok, Err, refl, sym, subst}
use Rattle.broker_model.specs.Words.{Broker, Done, ◌>>=◌, some_or, Text, RequestError, Refused, Rows}
use Rattle.broker_types.specs.declared.refusal.Refusal.TheVariants as refusal
use Rattle.broker_rows.specs.Representing.{Represents}
use Rattle.broker_rows.specs.declared.answered.Answered as Code
use Rattle.broker_rows.specs.Operating.{ActsAs}

module _ {X : Type 0} (b : Broker) (rows : Rows) (who : Option Text) (f : X → Done) (o : Option X) where
  -- the answer that shows what was found
  pub acts_found : (x : X) (result : Result Code.Answered RequestError) → o ≡ Some x
      → ActsAs who b rows result (Ok (f x))
      → ActsAs who b rows result (some_or refusal.NotFound o >>= (λ x. Ok (f x)))
  acts_found x result is acts =
      subst (λ o. ActsAs who b rows result (some_or refusal.NotFound o >>= (λ x. Ok (f x)))) (sym is) acts

  -- 404 where nothing was
  pub acts_absent : o ≡ None → Represents who rows b
      → ActsAs who b rows (Err (Refused refusal.NotFound)) (some_or refusal.NotFound o >>= (λ x. Ok (f x)))
  acts_absent is st =
      subst (λ o. ActsAs who b rows (Err (Refused refusal.NotFound)) (some_or refusal.NotFound o >>= (λ x. Ok (f x))))
      (sym is) (refl, st)
