-- How serving a connection ends: what holds of it is told by what the hub keeps.
use Rattle.std.proofs.Common.{◌≡◌, ◌≢◌, ◌⊎◌, ◌++◌, ◌∙◌, inl, inr, ℕ, Bool, true, false, List, [], MatchBool, Option, Ok}
use Rattle.broker_model.specs.Words.{Some, None, Result, Err, unwrap_or, refl, sym, ap, subst, add-zero, arith}
use Rattle.broker_model.specs.Words.{false≢true, update_here, Response, Ask, Fault, Memory, Storage, Damaged, BadStart}
use Rattle.broker_model.specs.Words.{is_storage}
use Rattle.http_layer.specs.Words.{asked, Front, need, refused_with, whole, IsFront, RefusalParts, ask_refused}
use Rattle.http_layer.specs.Words.{front_refused, IsReply, IsReply-not_empty}
use Rattle.hub.specs.Words.{FaultsAt, IsFrontReply, IsRequestReply, NextConnections, TurnsOpen, ConnectionRepresents}
use Rattle.hub.specs.Words.{EntryRepresents, ConnectionsRepresent, hub_connections, IsAnswered, IsGone, LeavesClosed}
use Rattle.hub.specs.Words.{Connections, FollowsRequests, History, history_after, history_at, new_history, put_history}
use Rattle.hub.specs.Words.{request_closes, Connection, Open, Closed, Hub}
use Rattle.hub.proofs.HistoryLemmas.{FollowsRequests-unique}
use Rattle.hub.proofs.ServingLemmas.{leaves_closed}
use Rattle.hub.proofs.WaitingLemmas.{standing_all, standing_each}

-- ---- without a reply

replies_something : (r : Response) (m : ℕ) (close : Bool) → IsReply r m close [] → ⊥
replies_something r m close reply = let some = IsReply-not_empty r m close [] reply in omega (arith, some)

request_replies : (m : ℕ) (close : Bool) (x : Result Ask RefusalParts) → IsRequestReply m close x [] → ⊥
request_replies m close (Ok ask) (r, listed, reply) = replies_something r m close reply
request_replies m close (Err r) reply = replies_something (ask_refused r) m close reply

-- only where more bytes are needed there is no reply
front_silent : (m : ℕ) (f : Front) → IsFrontReply m f [] → f ≡ need
front_silent m need reply = refl
front_silent m (refused_with status) reply = absurd (replies_something (front_refused status) m true reply)
front_silent m (whole len head body) reply =
    absurd (request_replies m (request_closes head (asked head body)) (asked head body) reply)

silent_turn : (h : History) (piece : List ℕ) (m : ℕ) (bytes : List ℕ) (after : History)
    → TurnsOpen h piece m bytes after → bytes ≡ []
    → (rest : List ℕ) → FollowsRequests after.stream after.answered rest → IsFront rest need
silent_turn h piece m bytes after t nothing rest follows =
    let is : t.front ≡ need = front_silent m t.front (subst (IsFrontReply m t.front) nothing t.reply) in
    let so : after ≡ history_after h piece need = t.history ∙ ap (history_after h piece) is in
    let there : FollowsRequests (h.stream ++ piece) h.answered rest =
    subst (λ (k : ℕ). FollowsRequests (h.stream ++ piece) k rest) (add-zero h.answered)
    (subst (λ (x : History). FollowsRequests x.stream x.answered rest) so follows) in
    let same : rest ≡ t.rest = FollowsRequests-unique (h.stream ++ piece) h.answered rest t.rest there t.follows in
    subst (λ (l : List ℕ). IsFront l need) (sym same) (subst (IsFront t.rest) is t.is_front)

history_put : (all : Connections) (conn : ℕ) (h : History) → history_at (put_history all conn h) conn ≡ h
history_put all conn h = ap (λ (x : Option History). unwrap_or x new_history) (update_here all conn (Some h))

silent_at : (all : Connections) (conn : ℕ) (piece : List ℕ) (m : ℕ) (bytes : List ℕ) (after : Connections)
    (closed : Bool)
    → (history_at all conn).closed ≡ closed
    → MatchBool closed ((bytes ≡ []) × (after ≡ all))
    ((h : History) × TurnsOpen (history_at all conn) piece m bytes h × (after ≡ put_history all conn h))
    → bytes ≡ [] → IsAnswered after conn
silent_at all conn piece m bytes after true shut (none, same) nothing =
    inl (ap (λ (x : Connections). (history_at x conn).closed) same ∙ shut)
silent_at all conn piece m bytes after false is_open (h, turns, put) nothing =
    let here : history_at after conn ≡ h = ap (λ (x : Connections). history_at x conn) put ∙ history_put all conn h in
    inr (λ rest follows.
    silent_turn (history_at all conn) piece m bytes h turns nothing rest
    (subst (λ (x : History). FollowsRequests x.stream x.answered rest) here follows))

-- ---- what the hub keeps

-- no request waits for its reply
abbrev AnsweredAt : History → Type 0
AnsweredAt h = (h.closed ≡ true) ⊎ ((rest : List ℕ) → FollowsRequests h.stream h.answered rest → IsFront rest need)

answered_both : (c : Connection) (h g : History) → ConnectionRepresents c h → ConnectionRepresents c g → AnsweredAt h
    → AnsweredAt g
answered_both Closed h g p q is = inl (sym q.closed)
answered_both (Open bytes) h g p q (inl shut) = absurd (false≢true (p.closed ∙ shut))
answered_both (Open bytes) h g p q (inr needs) =
    let first = p.waits (sym p.closed) in
    let second = q.waits (sym q.closed) in
    let front : IsFront bytes need = subst (λ (l : List ℕ). IsFront l need) first.1 (needs first.0 first.2) in
    inr (λ rest follows.
    let same : rest ≡ bytes = FollowsRequests-unique g.stream g.answered rest second.0 follows second.2 ∙ second.1 in
    subst (λ (l : List ℕ). IsFront l need) (sym same) front)

answered_same : (o : Option Connection) (x y : Option History) → EntryRepresents o x → EntryRepresents o y
    → AnsweredAt (unwrap_or x new_history) → AnsweredAt (unwrap_or y new_history)
answered_same None None None p q is = is
answered_same None None (Some g) p q is = absurd q
answered_same None (Some h) y p q is = absurd p
answered_same (Some c) None y p q is = absurd p
answered_same (Some c) (Some h) None p q is = absurd q
answered_same (Some c) (Some h) (Some g) p q is = answered_both c h g p q is

some_is_none : {h : History} → Some h ≡ None → ⊥
some_is_none e = cc

gone_same : (o : Option Connection) (x y : Option History) → EntryRepresents o x → EntryRepresents o y
    → ((unwrap_or x new_history).closed ≡ true) ⊎ (x ≡ None) → ((unwrap_or y new_history).closed ≡ true) ⊎ (y ≡ None)
gone_same None None None p q is = inr refl
gone_same None None (Some g) p q is = absurd q
gone_same None (Some h) y p q is = absurd p
gone_same (Some c) None y p q is = absurd p
gone_same (Some c) (Some h) None p q is = absurd q
gone_same (Some c) (Some h) (Some g) p q (inl shut) = inl (sym q.closed ∙ p.closed ∙ shut)
gone_same (Some c) (Some h) (Some g) p q (inr none) = absurd (some_is_none none)

-- ---- endings

-- no reply says that none waits
pub answered_silent : {S : Type 0} (conn : ℕ) (piece : List ℕ) (m : ℕ) (bytes : List ℕ) (old new : Hub S)
    → ((all : Connections) → ConnectionsRepresent old all
    → (after : Connections) × ConnectionsRepresent new after × NextConnections all conn piece m bytes after)
    → bytes ≡ [] → (all : Connections) → ConnectionsRepresent new all → IsAnswered all conn
answered_silent conn piece m bytes old new gives nothing all represents =
    let before = standing_all (hub_connections old) in
    let n = gives before (standing_each (hub_connections old)) in
    answered_same (hub_connections new conn) (n.0 conn) (all conn) (n.1 conn) (represents conn)
    (silent_at before conn piece m bytes n.0 (history_at before conn).closed refl n.2 nothing)

gone_closed : (all : Connections) (conn : ℕ) (after : Connections) → LeavesClosed all conn after → IsGone after conn
gone_closed all conn after (inl is) =
    inl (ap (λ (x : Connections). (history_at x conn).closed) is
    ∙ ap (λ (h : History). h.closed) (history_put all conn (record (history_at all conn) { closed = true })))
gone_closed all conn after (inr (unseen, same)) = inr (ap (λ (x : Connections). x conn) same ∙ unseen)

-- a connection that was closed is gone
pub gone_closing : {S : Type 0} (conn : ℕ) (old new : Hub S)
    → ((all : Connections) → ConnectionsRepresent old all
    → (after : Connections) × ConnectionsRepresent new after × LeavesClosed all conn after)
    → (all : Connections) → ConnectionsRepresent new all → IsGone all conn
gone_closing conn old new closes all represents =
    let before = standing_all (hub_connections old) in
    let n = closes before (standing_each (hub_connections old)) in
    gone_same (hub_connections new conn) (n.0 conn) (all conn) (n.1 conn) (represents conn)
    (gone_closed before conn n.0 n.2)

-- so is one whose event had a fault
pub gone_faulting : {S : Type 0} (conn : ℕ) (piece : List ℕ) (fault : Fault) (old new : Hub S)
    → ((all : Connections) → ConnectionsRepresent old all
    → (after : Connections) × ConnectionsRepresent new after × FaultsAt fault all conn piece after)
    → (all : Connections) → ConnectionsRepresent new all → IsGone all conn
gone_faulting conn piece fault old new faults =
    gone_closing conn old new (λ all represents.
    let n = faults all represents in
    (n.0, n.1, leaves_closed fault all conn piece n.0 n.2))

-- another fault than that of storage
pub not_storage : (A : Type 0) (fault : Fault) → fault ≢ Storage → is_storage {A = A} (Err fault) ≡ false
not_storage A Memory other = refl
not_storage A Storage other = absurd (other refl)
not_storage A Damaged other = refl
not_storage A BadStart other = refl
