-- What the steps of a request leave (this project's definition).
use Rattle.std.specs.Prelude.{◌≡◌, if◌then◌else◌, Bool, Option, Some, None, Result, Ok, Err}
use Rattle.broker_model.specs.Words.{Text, Broker, EndsOk, EndsRefused, spend, Refusal, IsTokenInRange, IsSomeIn, Rows}
use Rattle.broker_model.specs.Words.{Outcome, Wrapped, for_caller, denied}
use Rattle.broker_rows.specs.Words.{Caller, IsCallerOf, Represents, IsDone}
use Rattle.broker_rows.specs.declared.answered.Answered.{Answered}

-- The client token is looked for. It is that of the caller, which has spent a use, and the rows represent a broker
-- then; or there is no caller, and the ask is denied.
abbrev pub IsCaller : Broker → Option Text → Rows → Option Caller → Type 0
IsCaller b token rows (Some c) =
    ((go : Text → Outcome) → for_caller b token go ≡ go c.token) × IsCallerOf (spend b c.token) c
    × Represents (Some c.token) rows (spend b c.token)
IsCaller b token rows None =
    (c : Broker) × ((go : Text → Outcome) → for_caller b token go ≡ denied c) × Represents None rows c

-- what the row of the caller says can be kept, if there is a caller
abbrev pub IsCallerInRange : Option Caller → Type 0
IsCallerInRange = IsSomeIn (λ c. IsTokenInRange c.known)

-- the same of an operation whose reply may have been wrapped
abbrev pub IsServed : Option Text → Rows → Answered → Wrapped → Type 0
IsServed who rows x w = IsDone who rows x w.done

-- an ask was served, or refused as by the definition, and then the rows represent b
abbrev pub HasServed : Option Text → Rows → Broker → Result Answered Refusal → Result Wrapped Refusal → Type 0
HasServed who rows b (Ok x) m = EndsOk (IsServed who rows) x m
HasServed who rows b (Err r) m = EndsRefused (Represents who rows b) r m

-- Who may have spent its last use when a request has been served: its caller, if it was on that. No operation takes a
-- token's last use.
abbrev pub may_be_spent : Text → Bool → Option Text
may_be_spent caller is_last_use = if is_last_use then Some caller else None
