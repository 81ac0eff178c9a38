-- How much waits on a connection falls with each reply to an empty piece.
use Rattle.std.proofs.Common.{◌≡◌, ◌≢◌, ◌+◌, ◌<◌, ◌++◌, ◌∙◌, ℕ, Bool, true, false, List, [], length, drop, Option, Some}
use Rattle.broker_model.specs.Words.{None, MatchBool, option_map, unwrap_or, refl, sym, ap, subst, arith, false≢true}
use Rattle.broker_model.specs.Words.{append-nil, length-drop, update_here}
use Rattle.http_layer.specs.Words.{Front, need, refused_with, whole, IsFront, whole_within}
use Rattle.hub.specs.Words.{NextConnections, TurnsOpen, IsFrontReply, ConnectionRepresents, EntryRepresents, waiting}
use Rattle.hub.specs.Words.{Connections, FollowsRequests, History, history_after, history_at, new_history, put_history}
use Rattle.hub.specs.Words.{Connection, Open, Closed}
use Rattle.hub.proofs.HistoryLemmas.{FollowsRequests-more, FollowsRequests-unique}
use Rattle.hub.proofs.HubLemmas.{EachRepresents}

-- a history that a connection represents: its bytes are the whole stream
abbrev pub standing : Connection → History
standing (Open bytes) = record { stream = bytes; answered = 0; closed = false }
standing Closed = record { stream = []; answered = 0; closed = true }

-- connections that these represent
abbrev pub standing_all : (ℕ → Option Connection) → Connections
standing_all kept conn = option_map standing (kept conn)

pub standing_each : (kept : ℕ → Option Connection) → EachRepresents kept (standing_all kept)
standing_each kept conn = at (kept conn)
  where
    at : (o : Option Connection) → EntryRepresents o (option_map standing o)
    at None = tt
    at (Some (Open bytes)) = record { closed = refl; waits = λ is_open. (bytes, refl, refl) }
    at (Some Closed) = record { closed = refl; waits = λ is_open. absurd (false≢true (sym is_open)) }

-- how much waits on an open connection
waiting_open : (o : Option Connection) → (unwrap_or (option_map standing o) new_history).closed ≡ false
    → waiting o ≡ length (unwrap_or (option_map standing o) new_history).stream + 1
waiting_open None is_open = refl
waiting_open (Some (Open bytes)) is_open = refl
waiting_open (Some Closed) is_open = absurd (false≢true (sym is_open))

none_answered : (o : Option Connection) → (unwrap_or (option_map standing o) new_history).answered ≡ 0
none_answered None = refl
none_answered (Some (Open bytes)) = refl
none_answered (Some Closed) = refl

-- fewer bytes wait where a request was answered
fewer : (c : Connection) (g : History) (n : ℕ) → ConnectionRepresents c g
    → ((rest : List ℕ) → FollowsRequests g.stream g.answered rest → length rest < n)
    → waiting (Some c) < n + 1
fewer Closed g n represents short = omega arith
fewer (Open bytes) g n represents short =
    let waits = represents.waits (sym represents.closed) in
    omega (arith, short waits.0 waits.2, ap length waits.1)

-- nothing waits on a closed one
none_waits : (c : Connection) (g : History) (n : ℕ) → ConnectionRepresents c g → g.closed ≡ true
    → waiting (Some c) < n + 1
none_waits Closed g n represents shut = omega arith
none_waits (Open bytes) g n represents shut = absurd (false≢true (represents.closed ∙ shut))

front_falls : (f : Front) (stream rest : List ℕ) (h g : History) (c : Connection) (m : ℕ) (bytes : List ℕ)
    → h.answered ≡ 0 → h.stream ≡ stream → FollowsRequests (h.stream ++ []) h.answered rest → IsFront rest f
    → IsFrontReply m f bytes → bytes ≢ []
    → g ≡ history_after h [] f → ConnectionRepresents c g → waiting (Some c) < length stream + 1
front_falls need stream rest h g c m bytes zero same follows front reply some is represents = absurd (some reply)
front_falls (refused_with status) stream rest h g c m bytes zero same follows front reply some is represents =
    none_waits c g (length stream) represents (ap (λ (x : History). x.closed) is)
front_falls (whole len p body) stream rest h g c m bytes zero same follows front reply some is represents =
    fewer c g (length stream) represents (λ left there.
    let all : rest ≡ stream =
    subst (λ (n : ℕ). FollowsRequests (h.stream ++ []) n rest) zero follows ∙ append-nil h.stream ∙ same in
    let more : FollowsRequests (h.stream ++ []) (h.answered + 1) (drop len rest) =
    FollowsRequests-more (h.stream ++ []) h.answered rest len p body follows front in
    let at : FollowsRequests (h.stream ++ []) (h.answered + 1) left =
    subst (λ (x : History). FollowsRequests x.stream x.answered left) is there in
    let left_is : left ≡ drop len rest = FollowsRequests-unique (h.stream ++ []) (h.answered + 1) left
    (drop len rest) at more in
    let fits = whole_within rest len p body front in
    omega (arith, ap length left_is, length-drop len rest, ap length all, fits.0, fits.1))

entry_falls : (o : Option Connection) (x : Option History) (g : History) (n : ℕ) → EntryRepresents o x → x ≡ Some g
    → ((c : Connection) → ConnectionRepresents c g → waiting (Some c) < n) → waiting o < n
entry_falls None None g n t e falls = cc
entry_falls None (Some h) g n t e falls = absurd t
entry_falls (Some c) None g n t e falls = absurd t
entry_falls (Some c) (Some h) g n t e falls = let same : h ≡ g = cc in
    falls c (subst (λ (k : History). ConnectionRepresents c k) same t)

open_falls : (o : Option Connection) (all : Connections) (conn m : ℕ) (bytes : List ℕ) (next : Connections)
    (d : Option Connection)
    → history_at all conn ≡ unwrap_or (option_map standing o) new_history → (closed : Bool)
    → (history_at all conn).closed ≡ closed
    → MatchBool closed ((bytes ≡ []) × (next ≡ all))
    ((g : History) × TurnsOpen (history_at all conn) [] m bytes g × (next ≡ put_history all conn g))
    → bytes ≢ [] → EntryRepresents d (next conn) → waiting d < waiting o
open_falls o all conn m bytes next d is true shut (nothing, same) some represents = absurd (some nothing)
open_falls o all conn m bytes next d is false is_open (g, t, put) some represents =
    let h = history_at all conn in
    let stands : (unwrap_or (option_map standing o) new_history).closed ≡ false =
    ap (λ (x : History). x.closed) (sym is) ∙ is_open in
    let here : next conn ≡ Some g = ap (λ (x : Connections). x conn) put ∙ update_here all conn (Some g) in
    let less : waiting d < length (unwrap_or (option_map standing o) new_history).stream + 1 =
    entry_falls d (next conn) g _ represents here (λ c r.
    front_falls t.front (unwrap_or (option_map standing o) new_history).stream t.rest h g c m bytes
    (ap (λ (x : History). x.answered) is ∙ none_answered o)
    (ap (λ (x : History). x.stream) is) t.follows t.is_front t.reply some t.history r) in
    omega (arith, less, waiting_open o stands)

-- a reply to an empty piece leaves less that waits
pub waiting_falls : (old new : ℕ → Option Connection) (conn m : ℕ) (piece bytes : List ℕ) (next : Connections)
    → piece ≡ [] → bytes ≢ []
    → EachRepresents new next → NextConnections (standing_all old) conn piece m bytes next
    → waiting (new conn) < waiting (old conn)
waiting_falls old new conn m piece bytes next nothing some represents gives =
    open_falls (old conn) (standing_all old) conn m bytes next (new conn) refl
    (history_at (standing_all old) conn).closed refl
    (subst (λ (p : List ℕ). NextConnections (standing_all old) conn p m bytes next) nothing gives) some
    (represents conn)
