-- What the steps of a rewrap come to (this project's definition).
use Rattle.std.specs.Prelude.{◌≡◌, true, Option, Some, None, Result, IfOk}
use Rattle.broker_model.specs.Words.{Broker, Waiting, get, Names, names_of, Text, are_new, Fault, Seen, Rows, IsHonest}
use Rattle.broker_model.specs.Words.{moved, counted, wrapping_names, found_under, rewrapped}
use Rattle.broker_rows.specs.Words.{Context, Begins, Represents}

-- No response waited under t, and nothing has changed; or one did, it is told as it waits now, and the rows represent
-- the next broker, in which the identifiers of its new wrapping token are marked.
abbrev pub IsMoved : Option Text → Rows → Broker → Names → Text → Option Waiting → Type 0
IsMoved who new b names t None = (get b.waiting t ≡ None) × Represents who new b
IsMoved who new b names t (Some v) =
    (w : Waiting) × (get b.waiting t ≡ Some w) × (v ≡ moved names.wrapping_accessor b.clock w)
    × Represents who new (counted (rewrapped b names (found_under t w)))

-- the response of t, if one waits, moves to the wrapping token of the request's words, whose identifiers are new
abbrev pub MovesResponse : Option Text → Context → Seen → Seen → Text → Result (Option Waiting) Fault → Type 0
MovesResponse who x old new t result =
    IsHonest new → (b : Broker) → Begins who x old.rows b
    → are_new b.used (wrapping_names (names_of x.words)) ≡ true
    → IfOk result (IsMoved who new.rows b (names_of x.words) t)
