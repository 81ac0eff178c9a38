-- What the steps of an issue come to (this project's definition).
use Rattle.std.specs.Prelude.{◌≡◌, ◌∷◌, ℕ, [], true, Some, Result}
use Rattle.broker_model.specs.Words.{Broker, Ends, Text, are_new, use_up, RequestError, Seen, Rows, IsHonest, Issued}
use Rattle.broker_model.specs.Words.{creds}
use Rattle.broker_rows.specs.Words.{Caller, Context, BeginsBy, Represents}

-- the lease is told by its id and its ttl, and the rows represent the next broker, in which its identifiers are marked
abbrev pub IsLeased : Text → Rows → Text → Text → Text × ℕ → Issued → Type 0
IsLeased c new identifier credential l i =
    (l ≡ (i.lease_id, i.lease.ttl))
    × Represents (Some c) new (record i.next { used = use_up i.next.used (identifier ∷ credential ∷ []) })

-- a credential of a role is issued to the caller under two new identifiers, unless it is refused
abbrev pub IssuesLease : Caller → Context → Text → Text → Text → Text → Seen → Seen
    → Result (Text × ℕ) RequestError → Type 0
IssuesLease c x mount name identifier credential old new result =
    IsHonest new → (b : Broker) → BeginsBy c x old.rows b → are_new b.used (identifier ∷ credential ∷ []) ≡ true
    → Ends (IsLeased c.token new.rows identifier credential) (Represents (Some c.token) new.rows b) result
    (creds b c.token mount name identifier credential)
