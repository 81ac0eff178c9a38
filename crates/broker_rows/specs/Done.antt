-- What an operation leaves (this project's definition).
use Rattle.std.specs.Prelude.{◌≡◌, Option, Some, None}
use Rattle.broker_model.specs.Words.{Text, Done, Rows}
use Rattle.broker_types.specs.Operation as operation
pub use Rattle.broker_model.specs.Order.{counted}
use Rattle.broker_rows.specs.Representing.{Represents}
use Rattle.broker_rows.specs.declared.answered.Answered.{Answered}
use Rattle.broker_rows.specs.declared.answered.Answered.TheVariants.{Nothing, Given, Made, Kept, Missing}

-- what an operation answers, in the words of its definition
abbrev pub answered_of : Answered → operation.Answered
answered_of Nothing = operation.nothing
answered_of (Given r) = operation.reply r None
answered_of (Made r accessor) = operation.reply r (Some accessor)
answered_of (Kept text) = operation.kept_text text
answered_of (Missing r) = operation.missing r

-- an operation answered as its definition, and the rows represent what it left
abbrev pub IsDone : Option Text → Rows → Answered → Done → Type 0
IsDone who rows x d = (answered_of x ≡ d.answered) × Represents who rows (counted d)
