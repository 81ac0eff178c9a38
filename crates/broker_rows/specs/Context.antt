-- What an operation knows of its request beside what is asked and who asks (this project's definition).
use Rattle.broker_model.specs.Words.{ℕ, Words}

-- the broker's clock, and the words from which identifiers are made
pub record Context : Type 0 where
  pub clock : ℕ
  pub words : Words
