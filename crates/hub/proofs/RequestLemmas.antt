-- What the hub keeps of a connection tells whether a request waits on it.
use Rattle.std.proofs.Common.{◌≡◌, ◌⊎◌, ◌∙◌, inl, inr, ℕ, Bool, true, false, List, [], Option, Some, None, unwrap_or}
use Rattle.broker_model.specs.Words.{refl, sym, ap, subst, false≢true}
use Rattle.http_layer.specs.Words.{IsFront, need, unended, HasNoHeadEnd-nil}
use Rattle.hub.specs.Words.{connection_at, ConnectionRepresents, EntryRepresents, HasNoRequest, FollowsRequests}
use Rattle.hub.specs.Words.{History, new_history, Connection, Open, Closed, Entry, One, ClosedRun}
use Rattle.hub.proofs.EntryLemmas.{open_entry}
use Rattle.hub.proofs.HistoryLemmas.{FollowsRequests-unique}

-- no bytes need more
nothing_needs : IsFront [] need
nothing_needs = record { head = unended; is_head = (refl, HasNoHeadEnd-nil); front = refl }

-- no request of the history waits for its reply
abbrev AnsweredAt : History → Type 0
AnsweredAt h = (h.closed ≡ true) ⊎ ((rest : List ℕ) → FollowsRequests h.stream h.answered rest → IsFront rest need)

open_answered : (bytes : List ℕ) (h : History) → ConnectionRepresents (Open bytes) h → IsFront bytes need → AnsweredAt h
open_answered bytes h p needs =
    let waits = p.waits (sym p.closed) in
    inr (λ rest follows.
    let same : rest ≡ bytes = FollowsRequests-unique h.stream h.answered rest waits.0 follows waits.2 ∙ waits.1 in
    subst (λ (l : List ℕ). IsFront l need) (sym same) needs)

-- what has no request is answered
pub answered_of : (o : Option Connection) (x : Option History) → EntryRepresents o x → HasNoRequest o
    → AnsweredAt (unwrap_or x new_history)
answered_of None None p none = inr (λ rest is. subst (λ (l : List ℕ). IsFront l need) (sym is) nothing_needs)
answered_of None (Some h) p none = absurd p
answered_of (Some c) None p none = absurd p
answered_of (Some (Open bytes)) (Some h) p none = open_answered bytes h p none
answered_of (Some Closed) (Some h) p none = inl (sym p.closed)

-- and what is answered has none
pub none_of : (o : Option Connection) (x : Option History) → EntryRepresents o x → AnsweredAt (unwrap_or x new_history)
    → HasNoRequest o
none_of None x p answered = tt
none_of (Some Closed) x p answered = tt
none_of (Some (Open bytes)) None p answered = absurd p
none_of (Some (Open bytes)) (Some h) p (inl shut) = absurd (false≢true (p.closed ∙ shut))
none_of (Some (Open bytes)) (Some h) p (inr needs) =
    let waits = p.waits (sym p.closed) in
    subst (λ (l : List ℕ). IsFront l need) waits.1 (needs waits.0 waits.2)

-- ---- in the table

request_at : (f : ℕ → Option Entry) (conn : ℕ) (o : Option Connection) → connection_at f conn ≡ o
    → ((c : Connection) → f conn ≡ Some (One c) → HasNoRequest (Some c)) → HasNoRequest o
request_at f conn None is each = tt
request_at f conn (Some Closed) is each = tt
request_at f conn (Some (Open bytes)) is each = each (Open bytes) (open_entry f conn (Open bytes) is refl)

-- whether the entry is there, and is one connection
abbrev pub is_one : Option Entry → Bool
is_one None = false
is_one (Some (One c)) = true
is_one (Some (ClosedRun more)) = false

-- only an entry that is one connection can have a request
pub no_request_at : (f : ℕ → Option Entry) (conn : ℕ) → is_one (f conn) ≡ false → HasNoRequest (connection_at f conn)
no_request_at f conn none = request_at f conn (connection_at f conn) refl
    (λ c here. absurd (false≢true (sym none ∙ ap is_one here)))
