-- Calls that served: those of one event or of none, and one after another.
use Rattle.std.proofs.Common.{◌≡◌, ◌≤◌, ◌∷◌, ◌++◌, ℕ, List, [], length, Option, Vec, Result, Ok, Err, MatchResult}
use Rattle.broker_model.specs.Words.{Global, Appends, Consumes, Appends-trans, Consumes-trans, Fault, Words, Kept}
use Rattle.broker_model.specs.Words.{IsHonestStore}
use Rattle.hub.specs.Words.{FaultsAt, Keeps, ConnectionsRepresent, hub_store, IsUnanswered, Proceeds, Serves, Stops}
use Rattle.hub.specs.Words.{longest_piece, Supplies, Supplies-append, Connections, Event, Hub, ConnectionFault, Broker}
use Rattle.hub.specs.Words.{Read, Write}
use Rattle.hub.proofs.AnswersLemmas.{honest_before}
use Rattle.hub.proofs.EndingLemmas.{gone_closing, gone_faulting}
use Rattle.hub.proofs.KeepsLemmas.{keeps_closing, keeps_err, keeps_feeding, keeps_none, keeps_ok, keeps_on, keeps_one}
use Rattle.hub.proofs.KeepsLemmas.{keeps_writing}
use Rattle.hub.proofs.ServingLemmas.{Closes, Fed, Joins, closed_leaves, event_of, fault_leaves, fed_leaves, leaves_none}
use Rattle.hub.proofs.ServingLemmas.{leaves_on, proceeds_none, proceeds_on, proceeds_one, proceeds_so, stops_closing}
use Rattle.hub.proofs.ServingLemmas.{stops_feeding, stops_on, stops_so, stops_writing}

-- ---- one event, or none

-- nothing was done
abbrev pub serves_none : {S A : Type 0} (seen : S → Kept) (conn : ℕ) (P T : List ℕ → Type 0) (X : List Event → Type 0)
    (F W : Type 0)
    (a : A) (hub : Hub S) → P [] → T [] → X [] → Serves seen conn P T X F W (Ok a) hub hub
serves_none seen conn P T X F W a hub p t x =
    record {
      served = proceeds_none seen conn P T X hub p t x;
      others = λ all represents. leaves_none conn all hub represents;
      gone = tt;
      keeps = keeps_none seen F W a hub;
    }

-- the connection was closed, since a read or a write failed
abbrev pub serves_closing : {S A : Type 0} (seen : S → Kept) (conn : ℕ) (P T : List ℕ → Type 0)
    (X : List Event → Type 0) (F W : Type 0)
    (fault : ConnectionFault) (old new : Hub S) → IsUnanswered conn fault [] → (fault ≡ Read → F) → (fault ≡ Write → W)
    → P [] → T [] → X [] → Closes seen conn old new → Serves {A = A} seen conn P T X F W (Err fault) old new
serves_closing seen conn P T X F W fault old new none read write p t x c =
    record {
      served = stops_closing seen conn P T X fault old new none p t x c;
      others = λ all represents. closed_leaves conn all new (c.connections all represents);
      gone = gone_closing conn old new c.connections;
      keeps = keeps_closing seen conn F W ⊥ ⊥ fault (tt {0}) old old new none read write
          (keeps_none seen ⊥ ⊥ (tt {0}) old) c.store;
    }

-- an event was answered
abbrev pub serves_one : {S A : Type 0} (seen : S → Kept) (conn : ℕ) (piece : List ℕ) (m : ℕ) (ws : Words)
    (reply : Vec ℕ Global)
    (T : List ℕ → Type 0) (X : List Event → Type 0) (F W : Type 0) (a : A) (old new : Hub S)
    → Fed seen conn piece m ws reply old new
    → T (reply.items ++ []) → X (event_of conn piece m ws ∷ [])
    → Serves seen conn (λ read. read ≡ piece) T X F W (Ok a) old new
serves_one seen conn piece m ws reply T X F W a old new f t x =
    record {
      served = proceeds_one seen conn piece m ws reply T X old new f t x;
      others = λ all represents. fed_leaves conn piece m reply.items all new (f.gives all represents);
      gone = tt;
      keeps = keeps_one seen F W a reply old new f.keeps;
    }

-- it was, and writing its reply failed
abbrev pub serves_writing : {S A : Type 0} (seen : S → Kept) (conn : ℕ) (piece : List ℕ) (m : ℕ) (ws : Words)
    (reply : Vec ℕ Global)
    (T : List ℕ → Type 0) (X : List Event → Type 0) (F W : Type 0) (old mid new : Hub S) → W
    → Fed seen conn piece m ws reply old mid
    → Closes seen conn mid new → X (event_of conn piece m ws ∷ [])
    → Serves {A = A} seen conn (λ read. read ≡ piece) T X F W (Err Write) old new
serves_writing seen conn piece m ws reply T X F W old mid new failed f c x =
    record {
      served = stops_writing seen conn piece m ws reply T X old mid new f c x;
      others = λ all represents.
          leaves_on conn all mid new (fed_leaves conn piece m reply.items all mid (f.gives all represents))
          (λ each there. closed_leaves conn each new (c.connections each there));
      gone = gone_closing conn mid new c.connections;
      keeps = keeps_writing seen conn F W reply old mid new failed f.keeps c.store;
    }

-- an event had a fault
abbrev pub serves_feeding : {S A : Type 0} (seen : S → Kept) (conn : ℕ) (piece : List ℕ) (m : ℕ) (ws : Words)
    (T : List ℕ → Type 0) (X : List Event → Type 0) (F W : Type 0) (fault : Fault) (old new : Hub S)
    → length piece ≤ longest_piece
    → Keeps {A = Vec ℕ Global} (hub_store seen old) (hub_store seen new) (Err fault)
    → ((all : Connections) → ConnectionsRepresent old all → (after : Connections) × ConnectionsRepresent new after
    × FaultsAt fault all conn piece after)
    → T [] → X (event_of conn piece m ws ∷ [])
    → Serves {A = A} seen conn (λ read. read ≡ piece) T X F W (Err (Broker fault)) old new
serves_feeding seen conn piece m ws T X F W fault old new short keeps faults t x =
    record {
      served = stops_feeding seen conn piece m ws T X fault old new short t x keeps.kept faults;
      others = λ all represents. fault_leaves conn piece fault all new (faults all represents);
      gone = gone_faulting conn piece fault old new faults;
      keeps = keeps_feeding seen F W fault old new keeps;
    }

-- ---- one call after another

served_on : {S A : Type 0} (seen : S → Kept) (conn : ℕ) (P Q R T U V : List ℕ → Type 0) (X Y Z : List Event → Type 0)
    (r : Result A ConnectionFault) (old mid new : Hub S) → Joins P Q R → Joins T U V → Joins X Y Z
    → (IsHonestStore (hub_store seen new) → IsHonestStore (hub_store seen mid)) → Proceeds seen conn P T X old mid
    → MatchResult r (λ _. Proceeds seen conn Q U Y mid new) (λ fault. Stops seen conn Q U Y fault mid new)
    → MatchResult r (λ _. Proceeds seen conn R V Z old new) (λ fault. Stops seen conn R V Z fault old new)
served_on seen conn P Q R T U V X Y Z (Ok a) old mid new reads writes draws before p q =
    proceeds_on seen conn P Q R T U V X Y Z old mid new reads writes draws before p q
served_on seen conn P Q R T U V X Y Z (Err fault) old mid new reads writes draws before p q =
    stops_on seen conn P Q R T U V X Y Z fault old mid new reads writes draws before p q

-- a call that returned, and another
pub serves_on : {S A B : Type 0} {seen : S → Kept} {conn : ℕ} {P Q R T U V : List ℕ → Type 0} {X Y Z : List Event
    → Type 0}
    {F W G H : Type 0} {a : A} {r : Result B ConnectionFault} {old mid new : Hub S}
    → Serves seen conn P T X G H (Ok a) old mid
    → Serves seen conn Q U Y F W r mid new → Joins P Q R → Joins T U V → Joins X Y Z
    → Serves seen conn R V Z F W r old new
serves_on {seen} {conn} {P} {Q} {R} {T} {U} {V} {X} {Y} {Z} {F} {W} {G} {H} {a} {r} {old} {mid} {new} p q reads writes
    draws =
    let before = honest_before (hub_store seen mid) (hub_store seen new) q.keeps.later.mismatches in
    record {
      served = served_on seen conn P Q R T U V X Y Z r old mid new reads writes draws before p.served q.served;
      others = λ all represents. leaves_on conn all mid new (p.others all represents) q.others;
      gone = q.gone;
      keeps = keeps_on seen F W G H a r old mid new
          (λ honest w represents. let v = p.served.answers honest w represents in (v.after, v.represents)) p.keeps
          q.keeps;
    }

-- the same of what two calls read and wrote one after the other, each with its own moments and words
pub serves_next : {S A B C D : Type 0} {seen : S → Kept} {conn : ℕ} (was left rest start now end : Option (List ℕ))
    {may_tell : C → ℕ → C → Type 0} {clock clock_mid clock_after : C} {may_give : D → Words → D → Type 0}
    {words words_mid words_after : D}
    {F W G H : Type 0} {a : A} {r : Result B ConnectionFault} {old mid new : Hub S}
    → Serves seen conn (Consumes was left) (Appends start now)
    (Supplies may_tell clock clock_mid may_give words words_mid) G H (Ok a) old mid
    → Serves seen conn (Consumes left rest) (Appends now end)
    (Supplies may_tell clock_mid clock_after may_give words_mid words_after) F W r mid new
    → Serves seen conn (Consumes was rest) (Appends start end)
    (Supplies may_tell clock clock_after may_give words words_after) F W r old new
serves_next was left rest start now end {may_tell} {clock} {clock_mid} {clock_after} {may_give} {words} {words_mid}
    {words_after} p q =
    serves_on p q (Consumes-trans was left rest) (Appends-trans start now end)
    (Supplies-append may_tell clock clock_mid clock_after may_give words words_mid words_after)

-- ---- other words

-- for what was read
pub serves_so : {S A : Type 0} {seen : S → Kept} {conn : ℕ} {P Q T : List ℕ → Type 0} {X : List Event → Type 0}
    {F W : Type 0}
    {old new : Hub S} (r : Result A ConnectionFault) → Serves seen conn P T X F W r old new → ((l : List ℕ) → P l → Q l)
    → Serves seen conn Q T X F W r old new
serves_so {seen} {conn} {P} {Q} {T} {X} {old} {new} (Ok a) s reads =
    record {
      served = proceeds_so seen conn P Q T X old new reads s.served;
      others = s.others;
      gone = tt;
      keeps = s.keeps;
    }
serves_so {seen} {conn} {P} {Q} {T} {X} {old} {new} (Err fault) s reads =
    record {
      served = stops_so seen conn P Q T X fault old new reads s.served;
      others = s.others;
      gone = s.gone;
      keeps = s.keeps;
    }

-- for what was returned
pub serves_ok : {S A B : Type 0} {seen : S → Kept} {conn : ℕ} {P T : List ℕ → Type 0} {X : List Event → Type 0}
    {F W G H : Type 0} {a : A}
    {b : B} {old new : Hub S} → Serves seen conn P T X G H (Ok a) old new → Serves seen conn P T X F W (Ok b) old new
serves_ok {seen} {F} {W} {b} {old} {new} s =
    record {
      served = s.served;
      others = s.others;
      gone = tt;
      keeps = keeps_ok seen F W b old new s.keeps.stays_open s.keeps.later;
    }

-- for the cause of a fault of reading
pub serves_err : {S A B : Type 0} {seen : S → Kept} {conn : ℕ} {P T : List ℕ → Type 0} {X : List Event → Type 0}
    {F G W : Type 0}
    {fault : ConnectionFault} {old new : Hub S} → Serves {A = A} seen conn P T X F W (Err fault) old new → (F → G)
    → Serves {A = B} seen conn P T X G W (Err fault) old new
serves_err {seen} {F} {G} {W} {fault} {old} {new} s causes =
    record {
      served = s.served;
      others = s.others;
      gone = s.gone;
      keeps = keeps_err seen F G W fault old new causes s.keeps;
    }
