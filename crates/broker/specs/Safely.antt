-- What holds of every answer over a transaction, whatever is asked (this project's definition).
use Rattle.broker_model.specs.Words.{ℕ, None, Result, IfOk, IfErr, HasRoom, response_of, Broker, IsMemoryOrStorage}
use Rattle.broker_model.specs.Words.{Answer, Ask, Fault, Words, Seen, IsHonest, GoesOn, is_storage, IsListed, step}
use Rattle.broker_rows.specs.Words.{NeedsClock, Gives, Represents}

-- P is what is known of the broker and of the request, among others that the rows represent the broker
pub record AnswersSafely (old new : Seen) (P : Broker → Type 0) (result : Result Answer Fault) : Type 0 where
  -- the room for the reply is reserved before anybody can commit
  pub room : IfOk result HasRoom
  -- whatever the rows are, the answer is a success or a listed refusal
  pub listed : IfOk result (λ a. IsListed (response_of a))
  -- on the rows of a broker no row is damaged or missing: it ran out of memory, or the storage failed
  pub wants : IsHonest new → (b : Broker) → P b → IfErr result IsMemoryOrStorage
  -- `Storage` comes only from the transaction, which has then failed
  pub goes_on : GoesOn old new (is_storage result)

-- an ask was answered at a moment, with the words from which its identifiers are made, or it failed
pub record IsHandled (moment : ℕ) (words : Words) (ask : Ask) (old new : Seen) (result : Result Answer Fault) :
    Type 0 where
  -- if the rows represent a sound broker, the answer is that of one step of it, and they represent its next broker
  pub told : IsHonest new → (b : Broker) → Represents None old.rows b
      → IfOk result (λ a. Gives a new.rows (step b moment words ask))
  pub safely : AnswersSafely old new (Represents None old.rows) result
  pub clock : IsHonest new → NeedsClock old.rows result
