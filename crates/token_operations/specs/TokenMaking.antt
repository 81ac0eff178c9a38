-- What the steps of a creation come to (this project's definition).
use Rattle.std.specs.Prelude.{◌≡◌, Option, Result, Ok}
use Rattle.broker_model.specs.Words.{Broker, empty, names_of, Text, Token, token_text, RequestError, TokenEntry}
use Rattle.broker_model.specs.Words.{token_entry, Seen, IsHonest, MayBeMade, forms, made}
use Rattle.broker_rows.specs.Words.{Context, ActsAs, Begins}
use Rattle.broker_rows.specs.declared.answered.Answered.{Answered}

-- the token of the entry is made, if it may be
abbrev pub PutsToken : Option Text → Context → Seen → Seen → TokenEntry → Result Answered RequestError → Type 0
PutsToken who x old new entry result =
    IsHonest new → (b : Broker) → Begins who x old.rows b → (y : Token) → token_entry y ≡ entry
    → MayBeMade forms b (token_text (names_of x.words).token) y → y.cubbyhole ≡ empty
    → y.accessor ≡ (names_of x.words).accessor
    → ActsAs who b new.rows result (Ok (made b (names_of x.words) y))
