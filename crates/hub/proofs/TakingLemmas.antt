-- Turns made of what was read, served and sent.
use Rattle.std.proofs.Common.{◌≡◌, ◌⊎◌, ◌<◌, ◌≤◌, ◌++◌, ◌∙◌, inl, inr, ℕ, List, [], length, Option, Some, None, Result}
use Rattle.broker_model.specs.Words.{Ok, Err, MatchResult, refl, sym, ap, subst, take, append-nil, Appends, Consumes}
use Rattle.broker_model.specs.Words.{IsAtEnd, Appends-nil, Kept}
use Rattle.endpoints.specs.Now.{PullsNow}
use Rattle.hub.specs.Words.{number_of, unsent, ConnectionsRepresent, IsGone, LeavesOthers, Serves, sent_in, Passes}
use Rattle.hub.specs.Words.{Says, TakesTurn, TurnsLink, TurnStops, Connections, Event, Hub, Link, ConnectionFault, Turn}
use Rattle.hub.specs.Words.{NeedsRoom}
use Rattle.hub.specs.declared.turn.Turn.TheVariants.{WentOn}
use Rattle.hub.proofs.KnownLemmas.{Consumes-kept}

-- ---- what was sent

pub passes_nothing : (known : Option (List ℕ)) (before after : List ℕ) → before ≡ after
    → Passes (Appends known known) before after []
passes_nothing known before after same =
    record { sent = []; sends = Appends-nil known; whole = append-nil before ∙ same }

-- a reply in place of nothing, of which something was sent
pub passes_reply : (Sends : List ℕ → Type 0) (before set after reply : List ℕ) → before ≡ [] → set ≡ reply
    → Passes Sends set after []
    → Passes Sends before after (reply ++ [])
passes_reply Sends before set after reply none same p = record {
  sent = p.sent;
  sends = p.sends;
  whole = ap (λ (l : List ℕ). l ++ (reply ++ [])) none ∙ ap (λ (l : List ℕ). l ++ []) (sym same) ∙ p.whole;
}

-- ---- turns

-- what is said where nothing was fed
pub said_sending : (turn : Turn) (before after : List ℕ)
    → ((turn ≡ WentOn) × (length after < length before)) ⊎ (turn ≡ NeedsRoom) → Says turn before after []
said_sending turn before after (inl sent) =
    subst (λ (t : Turn). Says t before after []) (sym sent.0) (inl (refl, sent.1))
said_sending turn before after (inr is) = subst (λ (t : Turn). Says t before after []) (sym is) refl

-- a call that served at most one event, as a turn
pub turns_ok : {S : Type 0} {seen : S → Kept} {P Sends : List ℕ → Type 0} {X : List Event → Type 0} {F W : Type 0}
    {turn : Turn}
    {old new : Hub S} (before after : Link) (conn : ℕ) → conn ≡ number_of before → number_of after ≡ number_of before
    → (s : Serves seen conn P (Passes Sends (unsent before) (unsent after)) X F W (Ok turn) old new)
    → length s.served.exchange.events ≤ 1 → Says turn (unsent before) (unsent after) s.served.exchange.replies
    → TurnsLink seen before after P Sends X F W (Ok turn) old new
turns_ok {seen} {P} {Sends} {X} {turn} {old} {new} before after conn at same s one said =
    record {
      took = subst (λ (k : ℕ). TakesTurn seen turn k (unsent before) (unsent after) P
          (Passes Sends (unsent before) (unsent after)) X old new) at
          (record { on = s.served; one = one; said = said });
      same = same;
      others = λ all represents. subst (λ (k : ℕ). LeavesOthers k all new) at (s.others all represents);
      gone = tt;
      keeps = s.keeps;
    }

-- one that had a fault
pub turns_err : {S : Type 0} {seen : S → Kept} {P Sends : List ℕ → Type 0} {X : List Event → Type 0} {F W : Type 0}
    {fault : ConnectionFault} {old new : Hub S} (before after : Link) (conn : ℕ) → conn ≡ number_of before
    → number_of after ≡ number_of before
    → (s : Serves {A = Turn} seen conn P (Passes Sends (unsent before) (unsent after)) X F W (Err fault) old new)
    → length (s.served.exchange.events ++ s.served.last) ≤ 1
    → Passes Sends (unsent before) (unsent after) (sent_in s.served.exchange)
    → TurnsLink seen before after P Sends X F W (Err fault) old new
turns_err {seen} {P} {Sends} {X} {fault} {old} {new} before after conn at same s one sent =
    record {
      took = subst (λ (k : ℕ). TurnStops seen k P (Passes Sends (unsent before) (unsent after)) X fault old new) at
          (record { stops = s.served; one = one; written = sent });
      same = same;
      others = λ all represents. subst (λ (k : ℕ). LeavesOthers k all new) at (s.others all represents);
      gone = subst (λ (k : ℕ). (all : Connections) → ConnectionsRepresent new all → IsGone all k)
          (at ∙ sym same) s.gone;
      keeps = s.keeps;
    }

-- ---- what was read

-- the piece is what was read
turned_so : {S : Type 0} (seen : S → Kept) (conn : ℕ) (before after piece : List ℕ) (Q T : List ℕ → Type 0)
    (X : List Event → Type 0)
    (old new : Hub S)
    (r : Result Turn ConnectionFault) → Q piece
    → MatchResult r (λ turn. TakesTurn seen turn conn before after (λ read. read ≡ piece) T X old new)
    (λ fault. TurnStops seen conn (λ read. read ≡ piece) T X fault old new)
    → MatchResult r (λ turn. TakesTurn seen turn conn before after Q T X old new)
    (λ fault. TurnStops seen conn Q T X fault old new)
turned_so seen conn before after piece Q T X old new (Ok turn) q t = record {
  on = record {
    exchange = t.on.exchange;
    reads = subst Q (sym t.on.reads) q;
    writes = t.on.writes;
    draws = t.on.draws;
    answers = t.on.answers;
    turns = t.on.turns;
  };
  one = t.one;
  said = t.said;
}
turned_so seen conn before after piece Q T X old new (Err fault) q t = record {
  stops = record {
    exchange = t.stops.exchange;
    last = t.stops.last;
    unanswered = t.stops.unanswered;
    reads = subst Q (sym t.stops.reads) q;
    writes = t.stops.writes;
    draws = t.stops.draws;
    before = t.stops.before;
    answers = t.stops.answers;
    turns = t.stops.turns;
  };
  one = t.one;
  written = t.written;
}

-- so of a turn
pub turns_so : {S : Type 0} {seen : S → Kept} {before after : Link} {piece : List ℕ} {Q Sends : List ℕ → Type 0}
    {X : List Event → Type 0}
    {F W : Type 0} {r : Result Turn ConnectionFault} {old new : Hub S} → Q piece
    → TurnsLink seen before after (λ read. read ≡ piece) Sends X ⊥ W r old new
    → TurnsLink seen before after Q Sends X F W r old new
turns_so {seen} {before} {after} {piece} {Q} {Sends} {X} {r} {old} {new} q t =
    record {
      took = turned_so seen (number_of before) (unsent before) (unsent after) piece Q
          (Passes Sends (unsent before) (unsent after)) X old new r q t.took;
      same = t.same;
      others = t.others;
      gone = t.gone;
      keeps = record {
        wants = t.keeps.wants;
        read = λ is. absurd (t.keeps.read is);
        write = t.keeps.write;
        storage = t.keeps.storage;
        stays_open = t.keeps.stays_open;
        later = t.keeps.later;
      };
    }

pub pulled_none : (old new : Option (List ℕ)) (got : Option ℕ) (buffer : List ℕ) → got ≡ None
    → PullsNow old new got buffer → Consumes old new []
pulled_none old new got buffer is p = Consumes-kept old new (subst (λ (o : Option ℕ). PullsNow old new o buffer) is p)

pub pulled_some : (old new : Option (List ℕ)) (got : Option ℕ) (buffer : List ℕ) (count : ℕ) → got ≡ Some count
    → PullsNow old new got buffer
    → Consumes old new (take count buffer)
pulled_some old new got buffer count is p = let q = subst (λ (o : Option ℕ). PullsNow old new o buffer) is p in q.0

pub pulled_end : (old new : Option (List ℕ)) (got : Option ℕ) (buffer : List ℕ) (count : ℕ) → got ≡ Some count
    → count ≡ 0 → PullsNow old new got buffer
    → Consumes old new []
pulled_end old new got buffer count is zero p =
    subst (λ (k : ℕ). Consumes old new (take k buffer)) zero (pulled_some old new got buffer count is p)

pub ends_now : (old new : Option (List ℕ)) (got : Option ℕ) (buffer : List ℕ) (count : ℕ) → got ≡ Some count → count ≡ 0
    → 0 < length buffer
    → PullsNow old new got buffer → IsAtEnd new
ends_now old new got buffer count is zero room p = let q = subst (λ (o : Option ℕ). PullsNow old new o buffer) is p in
    q.1 zero room
