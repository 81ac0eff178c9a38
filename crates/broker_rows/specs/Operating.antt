-- What an operation starts from, and how it ends (this project's definition).
use Rattle.std.specs.Prelude.{◌≡◌, ◌≢◌, All, List, Bool, true, false, Option, Some, None, Result}
use Rattle.broker_model.specs.Words.{Broker, get, is_mount_name, Done, is_path, Ends, IsIdentifier, Text, are_new}
use Rattle.broker_model.specs.Words.{Refusal, RequestError, Seen, Rows, IsHonest, Route, takes_parameter, Operation}
use Rattle.broker_model.specs.Words.{Secrets}
use Rattle.mounts.specs.declared.operation.Operation.TheVariants.{Issued}
use Rattle.broker_rows.specs.Caller.{Caller, IsCallerOf}
use Rattle.broker_rows.specs.Context.{Context}
use Rattle.broker_rows.specs.Representing.{Represents}
use Rattle.broker_rows.specs.Done.{IsDone}
use Rattle.broker_rows.specs.declared.answered.Answered.{Answered}

-- the rows represent b, which has this clock and of which the caller is a token, if there is a caller
pub record Begins (who : Option Text) (x : Context) (rows : Rows) (b : Broker) : Type 0 where
  pub represents : Represents who rows b
  pub here : (c : Text) → who ≡ Some c → get b.tokens c ≢ None
  pub clock : b.clock ≡ x.clock

-- the same of a request of this caller
pub record BeginsBy (c : Caller) (x : Context) (rows : Rows) (b : Broker) : Type 0 where
  pub begins : Begins (Some c.token) x rows b
  pub caller : IsCallerOf b c

-- the identifiers that were printed for an operation, which asks for these
pub record ArePrinted (own asked : List Text) : Type 0 where
  pub are : own ≡ asked
  pub good : All IsIdentifier own

-- whether the operation is one of an engine, whose mounts have rows
abbrev pub is_of_engine : Operation → Bool
is_of_engine (Secrets operation) = true
is_of_engine (Issued operation) = true
is_of_engine _ = false

-- what an operation takes from its route is of the form that it asks for
pub record IsWellFormed (r : Route) : Type 0 where
  pub parameter : takes_parameter r.operation ≡ true → is_path r.parameter ≡ true
  pub mount : is_of_engine r.operation ≡ true → is_mount_name r.mount ≡ true

-- the code's answer beside what is done to the broker b: where that is refused, the rows represent b
abbrev pub ActsAs : Option Text → Broker → Rows → Result Answered RequestError → Result Done Refusal → Type 0
ActsAs who b rows result m = Ends (IsDone who rows) (Represents who rows b) result m

-- The call does this, where its own identifiers are new. If it is refused, the rows represent the broker that it
-- started from; else the next one, in which the identifiers that it gave out are used.
abbrev pub Performs : Option Text → Context → List Text → Seen → Seen → (Broker → Result Done Refusal)
    → Result Answered RequestError → Type 0
Performs who x own old new does result =
    IsHonest new → (b : Broker) → Begins who x old.rows b → are_new b.used own ≡ true
    → ActsAs who b new.rows result (does b)

-- the same for this caller
abbrev pub PerformsBy : Caller → Context → List Text → Seen → Seen → (Broker → Result Done Refusal)
    → Result Answered RequestError → Type 0
PerformsBy c x own old new does result =
    IsHonest new → (b : Broker) → BeginsBy c x old.rows b → are_new b.used own ≡ true
    → ActsAs (Some c.token) b new.rows result (does b)
