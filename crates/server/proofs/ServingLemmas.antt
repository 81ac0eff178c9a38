-- What serving leaves, and then serving on.
use Rattle.std.proofs.Common.{◌≡◌, ◌≢◌, ◌⊎◌, ◌<◌, ◌≤◌, ◌+◌, ◌∷◌, ◌++◌, ◌∙◌, ℕ, Bool, List, [], Option, Some, None}
use Rattle.std.proofs.Common.{Result, Ok, Err, IsTrue, MatchResult, refl, sym, ap, subst, inl, inr, append-nil, arith}
use Rattle.std.proofs.Common.{All, nat_cmp, option_map, true, ⊎_elim}
use Rattle.std.specs.BTreeMap.{get}
use Rattle.records.specs.Words.{All-cons, All-nil, cases_lt, update_apart, Fault, Storage, Kept, IsHonestStore}
use Rattle.histories.specs.Words.{AllKeepLaws}
use Rattle.hub.specs.Supplies.{GivesInTurn}
use Rattle.hub.specs.SuppliesLaws.{GivesInTurn-append}
use Rattle.hub.specs.Words.{IsLater, IsNext, ConnectionsRepresent, HubRepresents, hub_store, LeavesClosed, LeavesOthers}
use Rattle.hub.specs.Words.{IsStepOf, Step, StepsBetween, closed, known_open, steps_close, steps_none, steps_on}
use Rattle.hub.specs.Words.{Connections, World, history_at, number_of}
use Rattle.hub.specs.declared.event.Event.{Event}
use Rattle.hub.specs.declared.hub.Hub.{Hub}
use Rattle.server.specs.Accepted.{AreServed, begun, Connection, IsServed, LeavesBetween, new_connection, numbered}
use Rattle.server.specs.Arriving.{HandsOut}
use Rattle.server.specs.Numbers.{connection_at, connection_of}
use Rattle.server.specs.ServedHub.{LeavesSeen}
use Rattle.server.specs.Serving.{EndsBy, ServesAt, IsEmpty, ServesConnections, ServesPeers, Stand, TurnsPeer}
use Rattle.server.specs.declared.peer.Peer.{Peer}
use Rattle.server.specs.declared.peers.Peers.{Peers}
use Rattle.server.proofs.AcceptedLemmas.{AreBelow, are_served_new, are_served_on, are_served_one, are_served_same}
use Rattle.server.proofs.AcceptedLemmas.{numbered_below, or_next, served_none, some_none}
use Rattle.server.proofs.TurnLemmas.{ends_none}

-- ---- two after each other

-- what was drawn for events, and then for others
abbrev pub Joins : (List Event → Type 0) → (List Event → Type 0) → (List Event → Type 0) → Type 0
Joins X Y Z = (es fs : List Event) → X es → Y fs → Z (es ++ fs)

-- no event, and others
pub none_joins : (X : List Event → Type 0) → Joins (λ events. events ≡ []) X X
none_joins X es fs none x = subst X (sym (ap (λ (l : List Event). l ++ fs) none)) x

pub joins_none : (X : List Event → Type 0) → Joins X (λ events. events ≡ []) X
joins_none X es fs x none = subst X (sym (ap (λ (l : List Event). es ++ l) none ∙ append-nil es)) x

honest_before : (a b : Kept) → IsLater a b → IsHonestStore b → IsHonestStore a
honest_before a b later honest = omega (arith, later.mismatches, honest)

-- whether the storage can be asked, after two calls
open_on : {B : Type 0} (r : Result B Fault) (x m o : Bool)
    → MatchResult r (λ _. x ≡ m) (λ fault. fault ≢ Storage → x ≡ m) → m ≡ o
    → MatchResult r (λ _. x ≡ o) (λ fault. fault ≢ Storage → x ≡ o)
open_on (Ok b) x m o same first = same ∙ first
open_on (Err fault) x m o same first = λ other. same other ∙ first

ends_on : {A B S : Type 0} (seen : S → Kept) (X : List Event → Type 0) (steps : List Step) (a : A) (r : Result B Fault)
    (old mid new : Hub S) → StepsBetween seen X steps old mid → IsLater (hub_store seen mid) (hub_store seen new)
    → EndsBy seen (Ok a) old mid → EndsBy seen r mid new → EndsBy seen r old new
ends_on seen X steps a r old mid new between later first second =
    let before = honest_before (hub_store seen mid) (hub_store seen new) later in
    record {
      skipped = second.skipped;
      storage = second.storage;
      stays_open = λ honest. open_on r (hub_store seen new).is_open (hub_store seen mid).is_open
          (hub_store seen old).is_open
          (second.stays_open honest) (first.stays_open (before honest));
      wants = λ honest open_ w represents.
          let still = subst IsTrue (sym (first.stays_open (before honest))) open_ in
          let one = between.worlds (before honest) (known_open (hub_store seen mid) steps still) w represents in
          second.wants honest still one.after one.represents;
    }

ends_fault : {A B S : Type 0} (seen : S → Kept) (r : Result A Fault) (t : Result B Fault) (fault : Fault)
    (old new : Hub S) → r ≡ Err fault → t ≡ Err fault → EndsBy seen r old new → EndsBy seen t old new
ends_fault seen (Ok a) t fault old new is_r is_t ends = cc is_r
ends_fault seen (Err f) (Ok b) fault old new is_r is_t ends = cc is_t
ends_fault {B = B} seen (Err f) (Err g) fault old new is_r is_t ends =
    let one : f ≡ fault = cc is_r in
    let two : g ≡ fault = cc is_t in
    subst (λ (x : Fault). EndsBy {A = B} seen (Err x) old new) (one ∙ sym two)
    (record {
      skipped = ends.skipped;
      storage = λ is. ends.storage (let e : f ≡ Storage = cc is in ap Err e);
      stays_open = ends.stays_open;
      wants = ends.wants;
    })

-- ---- which connections are left

between_all : {S : Type 0} (first next : ℕ) (all : Connections) (hub : Hub S) → ConnectionsRepresent hub all
    → LeavesBetween first next all hub
between_all first next all hub represents =
    record { after = all; represents = represents; below = λ k lt. refl; above = λ k le. refl }

between_on : {S : Type 0} (first next later : ℕ) (all : Connections) (mid new : Hub S) → next ≤ later
    → LeavesBetween first next all mid
    → ((each : Connections) → ConnectionsRepresent mid each → LeavesBetween first later each new)
    → LeavesBetween first later all new
between_on first next later all mid new le one more =
    let other = more one.after one.represents in
    record {
      after = other.after;
      represents = other.represents;
      below = λ k lt. other.below k lt ∙ one.below k lt;
      above = λ k past. other.above k past ∙ one.above k (omega (arith, le, past));
    }

-- no other connection than this one changed
between_others : {S : Type 0} (first next conn : ℕ) (all : Connections) (new : Hub S) → first ≤ conn → conn < next
    → LeavesOthers conn all new → LeavesBetween first next all new
between_others first next conn all new le lt left = record {
  after = left.after;
  represents = left.represents;
  below = λ k below. left.others k (omega (arith, le, below));
  above = λ k above. left.others k (omega (arith, lt, above));
}

-- this one was closed, or is still not seen
closed_others : {S : Type 0} (conn : ℕ) (all : Connections) (new : Hub S)
    → (after : Connections) × ConnectionsRepresent new after × LeavesClosed all conn after → LeavesOthers conn all new
closed_others conn all new (after, represents, left) = record {
  after = after;
  represents = represents;
  others = λ k ne. at k ne left;
}
  where
    at : (k : ℕ) → k ≢ conn → LeavesClosed all conn after → after k ≡ all k
    at k ne (inl is) = ap (λ (x : Connections). x k) is
        ∙ update_apart all conn (Some (record (history_at all conn) { closed = true })) k ne
    at k ne (inr same) = ap (λ (x : Connections). x k) same.1

-- ---- the connections of peers

map_some : {R W : Type 0} (u : Option (Peer R W)) (o : Connection R W) → option_map connection_of u ≡ Some o
    → (p : Peer R W) × (u ≡ Some p)
map_some None o is = cc is
map_some (Some p) o is = (p, refl)

pub below_next : {R W : Type 0} (p : Peers R W) → AreBelow (connection_at p.peers) p.next
below_next p k o is =
    let at = map_some (get nat_cmp p.peers k) o is in
    (p.numbered k at.0 at.1).1

-- one was opened under the next number
pub accepted_one : {R W : Type 0} (left : R → Option (List ℕ)) (written : W → Option (List ℕ)) (x : R × W)
    (p q : Peers R W) (n : Peer R W) → connection_of n ≡ new_connection x → q.next ≡ p.next + 1
    → (get nat_cmp q.peers p.next ≡ Some n) ⊎ (get nat_cmp q.peers p.next ≡ None)
    → ((k : ℕ) → k ≢ p.next → get nat_cmp q.peers k ≡ get nat_cmp p.peers k)
    → AreServed left written (x ∷ []) [] p.next (connection_at p.peers) q.next (connection_at q.peers)
accepted_one {R} {W} left written x p q n new next here others =
    are_served_new left written x p.next q.next (connection_at p.peers) (connection_at q.peers) (below_next p) next
    (now here) (λ k ne. ap (λ u. option_map connection_of u) (others k ne))
  where
    now : (get nat_cmp q.peers p.next ≡ Some n) ⊎ (get nat_cmp q.peers p.next ≡ None)
        → (connection_at q.peers p.next ≡ Some (new_connection x)) ⊎ (connection_at q.peers p.next ≡ None)
    now (inl is) = inl (ap (λ u. option_map connection_of u) is ∙ ap (λ (c : Connection R W). Some c) new)
    now (inr is) = inr (ap (λ u. option_map connection_of u) is)

pub stand_same : {R W : Type 0} (p : Peers R W) → Stand p p
stand_same p = record { first = refl; next = refl; same = λ k. refl }

pub stand_on : {R W : Type 0} (p q s : Peers R W) → Stand p q → Stand q s → Stand p s
stand_on p q s one two = record {
  first = two.first ∙ one.first;
  next = two.next ∙ one.next;
  same = λ k. two.same k ∙ one.same k;
}

pub stand_then : {R W : Type 0} (p q s : Peers R W) → q ≡ p → Stand q s → Stand p s
stand_then {R} {W} p q s is stand = subst (λ (x : Peers R W). Stand x s) is stand

-- ---- of all peers

module _ {S R W : Type 0} (seen : S → Kept) (left : R → Option (List ℕ)) (written : W → Option (List ℕ)) where
  -- nothing was done
  pub serves_stand : {A : Type 0} (X : List Event → Type 0) (a : A) (p q : Peers R W) (hub : Hub S) → X []
      → Stand p q → ServesPeers seen left written X [] (Ok a) p q hub hub
  serves_stand X a p q hub x stand = record {
    steps = [];
    between = steps_none seen X hub x;
    served = are_served_same left written p.next q.next (connection_at p.peers) (connection_at q.peers) stand.next
        stand.same;
    first = stand.first;
    others = λ all represents. between_all p.first q.next all hub represents;
    ends = ends_none seen a hub hub refl;
  }

  pub serves_same : {A : Type 0} (X : List Event → Type 0) (a : A) (p q : Peers R W) (hub : Hub S) → X []
      → q ≡ p → ServesPeers seen left written X [] (Ok a) p q hub hub
  serves_same X a p q hub x same = serves_stand X a p q hub x (record {
    first = ap (λ (s : Peers R W). s.first) same;
    next = ap (λ (s : Peers R W). s.next) same;
    same = λ k. ap (λ (s : Peers R W). connection_at s.peers k) same;
  })

  -- one after another
  pub serves_on : {A B : Type 0} (X Y Z : List Event → Type 0) (xs ys : List (R × W)) (a : A) (r : Result B Fault)
      (p q s : Peers R W) (old mid new : Hub S) → Joins X Y Z
      → ServesPeers seen left written X xs (Ok a) p q old mid → ServesPeers seen left written Y ys r q s mid new
      → ServesPeers seen left written Z (xs ++ ys) r p s old new
  serves_on X Y Z xs ys a r p q s old mid new joins first second =
      let more : q.next ≤ s.next = let number = second.served.numbers in omega (arith, number) in
      record {
        steps = first.steps ++ second.steps;
        between = steps_on seen X Y Z first.steps second.steps old mid new joins first.between second.between;
        served = are_served_on left written first.steps second.steps p.next q.next s.next (connection_at p.peers)
            (connection_at q.peers) (connection_at s.peers) xs ys (below_next p) first.served second.served;
        first = second.first ∙ first.first;
        others = λ all represents. between_on p.first q.next s.next all mid new more (first.others all represents)
            (λ each is. subst (λ (n : ℕ). LeavesBetween n s.next each new) first.first (second.others each is));
        ends = ends_on seen X first.steps a r old mid new first.between second.between.later first.ends second.ends;
      }

  -- peers that stay then, and another value
  pub serves_then : {A B : Type 0} (X : List Event → Type 0) (xs : List (R × W)) (a : A) (b : B) (p q s : Peers R W)
      (old new : Hub S) → s ≡ q → ServesPeers seen left written X xs (Ok a) p q old new
      → ServesPeers seen left written X xs (Ok b) p s old new
  serves_then X xs a b p q s old new same served =
      subst (λ (t : Peers R W). ServesPeers seen left written X xs (Ok b) p t old new) (sym same)
      (record {
        steps = served.steps;
        between = served.between;
        served = served.served;
        first = served.first;
        others = served.others;
        ends = record {
          skipped = tt;
          storage = λ is. cc is;
          stays_open = served.ends.stays_open;
          wants = λ honest open_ w represents. tt;
        };
      })

  -- peers that stay after a fault
  pub serves_fault : {A B : Type 0} (X : List Event → Type 0) (xs : List (R × W)) (r : Result A Fault)
      (t : Result B Fault) (fault : Fault) (p q s : Peers R W) (old new : Hub S) → r ≡ Err fault → t ≡ Err fault → s ≡ q
      → ServesPeers seen left written X xs r p q old new → ServesPeers seen left written X xs t p s old new
  serves_fault X xs r t fault p q s old new is_r is_t same served =
      subst (λ (u : Peers R W). ServesPeers seen left written X xs t p u old new) (sym same)
      (record {
        steps = served.steps;
        between = served.between;
        served = served.served;
        first = served.first;
        others = served.others;
        ends = ends_fault seen r t fault old new is_r is_t served.ends;
      })

  -- the same, of connections that are closed, or none that was accepted
  pub closes_on : {A B : Type 0} (a : A) (b : B) (p q s : Peers R W) (old mid new : Hub S)
      → ServesPeers seen left written (λ events. events ≡ []) [] (Ok a) p q old mid
      → ServesPeers seen left written (λ events. events ≡ []) [] (Ok b) q s mid new
      → ServesPeers seen left written (λ events. events ≡ []) [] (Ok b) p s old new
  closes_on a b p q s old mid new first second =
      serves_on (λ events. events ≡ []) (λ events. events ≡ []) (λ events. events ≡ []) [] [] a (Ok b) p q s old mid new
      (none_joins (λ events. events ≡ [])) first second

  -- one was served
  pub serves_one : {B : Type 0} (X : List Event → Type 0) (r : Result B Fault) (conn : ℕ) (p q : Peers R W)
      (o n : Peer R W) (old new : Hub S) → get nat_cmp p.peers conn ≡ Some o → get nat_cmp q.peers conn ≡ Some n
      → ((k : ℕ) → k ≢ conn → get nat_cmp q.peers k ≡ get nat_cmp p.peers k) → q.first ≡ p.first → q.next ≡ p.next
      → TurnsPeer seen left written X r o n old new → ServesPeers seen left written X [] r p q old new
  serves_one X r conn p q o n old new was now others first next t =
      let number = p.numbered conn o was in
      let is : number_of o.link ≡ conn = number.2 in
      record {
        steps = t.steps;
        between = t.between;
        served = are_served_one left written t.steps conn p.next q.next (connection_at p.peers)
            (connection_at q.peers) (connection_of o) (connection_of n) next
            (ap (λ u. option_map connection_of u) was) (inl (ap (λ u. option_map connection_of u) now))
            (λ k ne. ap (λ u. option_map connection_of u) (others k ne))
            (subst (λ (c : ℕ). All (IsStepOf c) t.steps) is t.own) t.served;
        first = first;
        others = λ all represents.
            between_others p.first q.next conn all new number.0
            (let lt = number.1 in omega (arith, lt, next))
            (subst (λ (c : ℕ). LeavesOthers c all new) is (t.others all represents));
        ends = t.ends;
      }

  closed_served : (conn : ℕ) (o : Connection R W) → IsServed left written (closed conn ∷ []) o o
  closed_served conn o =
      let none = served_none left written o in
      record {
        passed = none.passed;
        reads = none.reads;
        sends = none.sends;
        going = none.going;
        sent = none.sent;
        stays = none.stays;
      }

  -- one was closed
  pub serves_closed : {B : Type 0} (b : B) (conn : ℕ) (p q : Peers R W) (o : Peer R W) (old new : Hub S)
      → get nat_cmp p.peers conn ≡ Some o → get nat_cmp q.peers conn ≡ None
      → ((k : ℕ) → k ≢ conn → get nat_cmp q.peers k ≡ get nat_cmp p.peers k) → q.first ≡ p.first → q.next ≡ p.next
      → ((w : World) → HubRepresents seen old w → (after : Connections) × LeavesClosed w.connections conn after
      × HubRepresents seen new (record w { connections = after }))
      → ((all : Connections) → ConnectionsRepresent old all
      → (after : Connections) × ConnectionsRepresent new after × LeavesClosed all conn after)
      → hub_store seen new ≡ hub_store seen old
      → ServesPeers seen left written (λ events. events ≡ []) [] (Ok b) p q old new
  serves_closed b conn p q o old new was now others first next worlds closes same =
      let number = p.numbered conn o was in
      record {
        steps = closed conn ∷ [];
        between = steps_close seen conn (λ events. events ≡ []) old new refl worlds same;
        served = are_served_one left written (closed conn ∷ []) conn p.next q.next (connection_at p.peers)
            (connection_at q.peers) (connection_of o) (connection_of o) next
            (ap (λ u. option_map connection_of u) was) (inr (ap (λ u. option_map connection_of u) now))
            (λ k ne. ap (λ u. option_map connection_of u) (others k ne))
            (All-cons (IsStepOf conn) (closed conn) [] refl (All-nil (IsStepOf conn)))
            (closed_served conn (connection_of o));
        first = first;
        others = λ all represents.
            between_others p.first q.next conn all new number.0
            (let lt = number.1 in omega (arith, lt, next))
            (closed_others conn all new (closes all represents));
        ends = ends_none seen b old new same;
      }

  -- these were accepted, and nothing was fed
  pub serves_accepted : {B : Type 0} (X : List Event → Type 0) (xs : List (R × W)) (b : B) (p q : Peers R W)
      (hub : Hub S) → X [] → q.first ≡ p.first
      → AreServed left written xs [] p.next (connection_at p.peers) q.next (connection_at q.peers)
      → ServesPeers seen left written X xs (Ok b) p q hub hub
  serves_accepted X xs b p q hub x first served = record {
    steps = [];
    between = steps_none seen X hub x;
    served = served;
    first = first;
    others = λ all represents. between_all p.first q.next all hub represents;
    ends = ends_none seen b hub hub refl;
  }

-- ---- with a listener

pub hands_on : {L R W : Type 0} (may_accept : L → (R × W) → L → Type 0) (a b c : Option L) (xs ys : List (R × W))
    → HandsOut may_accept a b xs → HandsOut may_accept b c ys → HandsOut may_accept a c (xs ++ ys)
hands_on {R = R} {W = W} may None None None xs ys p q = ap (λ (l : List (R × W)). l ++ ys) p ∙ q
hands_on may None None (Some c) xs ys p q = absurd q
hands_on may None (Some b) c xs ys p q = absurd p
hands_on {R = R} {W = W} may (Some a) None None xs ys (after, p) q = (
  after,
  subst (λ (l : List (R × W)). GivesInTurn may a after (xs ++ l)) (sym q)
      (subst (GivesInTurn may a after) (sym (append-nil xs)) p),
)
hands_on may (Some a) None (Some c) xs ys p q = absurd q
hands_on may (Some a) (Some b) None xs ys p (after, q) = (after, GivesInTurn-append may a b after xs ys p q)
hands_on may (Some a) (Some b) (Some c) xs ys p q = GivesInTurn-append may a b c xs ys p q

hands_drop : {L R W : Type 0} (may_accept : L → (R × W) → L → Type 0) (a b : Option L) (xs : List (R × W))
    → HandsOut may_accept a b xs → HandsOut may_accept a None xs
hands_drop may None None xs p = p
hands_drop may None (Some b) xs p = absurd p
hands_drop may (Some a) None xs p = p
hands_drop may (Some a) (Some b) xs p = (b, p)

-- the listener that is left stays, or was dropped
pub hands_then : {L R W : Type 0} (may_accept : L → (R × W) → L → Type 0) (a b c : Option L) (xs : List (R × W))
    → HandsOut may_accept a b xs → (c ≡ b) ⊎ (c ≡ None) → HandsOut may_accept a c xs
hands_then {L} may a b c xs p (inl is) = subst (λ (o : Option L). HandsOut may a o xs) (sym is) p
hands_then {L} may a b c xs p (inr is) =
    subst (λ (o : Option L). HandsOut may a o xs) (sym is) (hands_drop may a b xs p)

pub hands_one : {L R W : Type 0} (may_accept : L → (R × W) → L → Type 0) (a b : Option L) (x y : L)
    (xs : List (R × W)) → a ≡ Some x → b ≡ Some y → GivesInTurn may_accept x y xs → HandsOut may_accept a b xs
hands_one {L} may a b x y xs is_a is_b gives =
    subst (λ (o : Option L). HandsOut may o b xs) (sym is_a)
    (subst (λ (o : Option L). HandsOut may (Some x) o xs) (sym is_b) gives)

pub hands_none : {L R W : Type 0} (may_accept : L → (R × W) → L → Type 0) (a b : Option L) → (b ≡ a) ⊎ (b ≡ None)
    → HandsOut may_accept a b []
hands_none may None None is = refl
hands_none may None (Some b) (inl is) = cc is
hands_none may None (Some b) (inr is) = cc is
hands_none may (Some a) None is = (a, refl)
hands_none may (Some a) (Some b) (inl is) = cc is
hands_none may (Some a) (Some b) (inr is) = cc is

module _ {S L R W : Type 0} (may_accept : L → (R × W) → L → Type 0) (seen : S → Kept) (left : R → Option (List ℕ))
    (written : W → Option (List ℕ)) where
  -- the listener stays, or was dropped
  pub at_peers : {B : Type 0} (X : List Event → Type 0) (r : Result B Fault) (l m : Option L) (p q : Peers R W)
      (old new : Hub S) → (m ≡ l) ⊎ (m ≡ None) → ServesPeers seen left written X [] r p q old new
      → ServesAt may_accept seen left written X r l m p q old new
  at_peers X r l m p q old new stays served = ([], hands_none may_accept l m stays, served)

  pub at_on : {A B : Type 0} (X Y Z : List Event → Type 0) (a : A) (r : Result B Fault) (l m n : Option L)
      (p q s : Peers R W) (old mid new : Hub S) → Joins X Y Z
      → ServesAt may_accept seen left written X (Ok a) l m p q old mid
      → ServesAt may_accept seen left written Y r m n q s mid new
      → ServesAt may_accept seen left written Z r l n p s old new
  at_on X Y Z a r l m n p q s old mid new joins first second = (
    first.0 ++ second.0,
    hands_on may_accept l m n first.0 second.0 first.1 second.1,
    serves_on seen left written X Y Z first.0 second.0 a r p q s old mid new joins first.2 second.2,
  )

  -- the same, where nothing is fed
  pub calm_on : {A B : Type 0} (a : A) (r : Result B Fault) (l m n : Option L) (p q s : Peers R W)
      (old mid new : Hub S)
      → ServesAt may_accept seen left written (λ events. events ≡ []) (Ok a) l m p q old mid
      → ServesAt may_accept seen left written (λ events. events ≡ []) r m n q s mid new
      → ServesAt may_accept seen left written (λ events. events ≡ []) r l n p s old new
  calm_on a r l m n p q s old mid new first second =
      at_on (λ events. events ≡ []) (λ events. events ≡ []) (λ events. events ≡ []) a r l m n p q s old mid new
      (none_joins (λ events. events ≡ [])) first second

  -- ---- all that was served

  -- no number from the first on was seen before
  pub seen_between : (first next : ℕ) (all : Connections) (new : Hub S) → IsNext all first
      → LeavesBetween first next all new → LeavesSeen all new
  seen_between first next all new is left = record {
    after = left.after;
    represents = left.represents;
    seen = λ k seen. ⊎_elim (λ lt. left.below k lt) (λ le. absurd (seen (is.unseen k le))) (cases_lt k first);
  }

  empty_at : (p : Peers R W) (k : ℕ) → IsEmpty p → connection_at p.peers k ≡ None
  empty_at p k empty = ap (λ u. option_map connection_of u) (empty k)

  first_begun : (p : Peers R W) (first : ℕ) (xs : List (R × W)) (k : ℕ) → IsEmpty p → p.next ≡ first
      → begun (connection_at p.peers) p.next xs k ≡ numbered first xs k
  first_begun p first xs k empty next =
      or_next (connection_at p.peers k) (numbered p.next xs k) (empty_at p k empty)
      ∙ ap (λ (n : ℕ). numbered n xs k) next

  numbered_from : (first : ℕ) (xs : List (R × W)) (k : ℕ) (o : Connection R W) → numbered first xs k ≡ Some o
      → (k < first) ⊎ (first ≤ k) → first ≤ k
  numbered_from first xs k o is (inl lt) = absurd (some_none (numbered first xs k) o is (numbered_below first xs k lt))
  numbered_from first xs k o is (inr le) = le

  served_whole : (xs : List (R × W)) (steps : List Step) (p q s : Peers R W)
      → AreServed left written xs steps p.next (connection_at p.peers) q.next (connection_at q.peers)
      → AreServed left written [] [] q.next (connection_at q.peers) s.next (connection_at s.peers)
      → AreServed left written xs steps p.next (connection_at p.peers) s.next (connection_at s.peers)
  served_whole xs steps p q s first rests =
      subst (λ (ys : List (R × W)). AreServed left written ys steps p.next (connection_at p.peers) s.next
      (connection_at s.peers)) (append-nil xs)
      (subst (λ (ss : List Step). AreServed left written (xs ++ []) ss p.next (connection_at p.peers) s.next
      (connection_at s.peers)) (append-nil steps)
      (are_served_on left written steps [] p.next q.next s.next (connection_at p.peers) (connection_at q.peers)
      (connection_at s.peers) xs [] (below_next p) first rests))

  -- all that was accepted and served, and the rests that were sent at the end
  pub all_served : {B : Type 0} (X : List Event → Type 0) (r : Result B Fault) (first : ℕ) (l m n : Option L)
      (p q s : Peers R W) (old new : Hub S) → (m ≡ l) ⊎ (m ≡ None) → IsEmpty p → p.next ≡ first
      → ((all : Connections) → ConnectionsRepresent old all → IsNext all first)
      → ServesAt may_accept seen left written X r m n p q old new
      → AreServed left written [] [] q.next (connection_at q.peers) s.next (connection_at s.peers)
      → AllKeepLaws → ServesConnections may_accept seen left written X l old new
  all_served X r first l m n p q s old new stays empty next is_next (xs, hands, at) rests laws =
      let whole = served_whole xs at.steps p q s at.served rests in
      record {
        accepted = xs;
        listener_after = n;
        hands_out = hands_on may_accept l m n [] xs (hands_none may_accept l m stays) hands;
        first = first;
        unseen = λ all represents k o is.
            (is_next all represents).unseen k (numbered_from first xs k o is (cases_lt k first));
        steps = at.steps;
        between = at.between;
        each = λ k o is.
            let one = whole.each k o (first_begun p first xs k empty next ∙ is) in (one.0, one.1);
        none = λ k is. (whole.none k (first_begun p first xs k empty next ∙ is)).0;
        all = λ honest known w represents.
            let from = at.between.worlds honest known w represents in (from, laws w.broker from.history from.asked);
        before = λ honest w represents.
            let taken = at.between.before honest w represents in (taken, laws w.broker taken.history taken.asked);
      }

  -- the hub has no number left: none is accepted
  pub none_served : (X : List Event → Type 0) (l : Option L) (hub : Hub S) → X [] → AllKeepLaws
      → ServesConnections may_accept seen left written X l hub hub
  none_served X l hub x laws =
      let between = steps_none seen X hub x in
      record {
        accepted = [];
        listener_after = l;
        hands_out = hands_none may_accept l l (inl refl);
        first = 0;
        unseen = λ all represents k o is. cc is;
        steps = [];
        between = between;
        each = λ k o is. cc is;
        none = λ k is. refl;
        all = λ honest known w represents.
            let from = between.worlds honest known w represents in (from, laws w.broker from.history from.asked);
        before = λ honest w represents.
            let taken = between.before honest w represents in (taken, laws w.broker taken.history taken.asked);
      }

  pub seen_all : (all : Connections) (hub : Hub S) → ConnectionsRepresent hub all → LeavesSeen all hub
  seen_all all hub represents = record { after = all; represents = represents; seen = λ k seen. refl }

-- none was accepted
pub accepted_none : {R W : Type 0} (left : R → Option (List ℕ)) (written : W → Option (List ℕ)) (p : Peers R W)
    → AreServed left written [] [] p.next (connection_at p.peers) p.next (connection_at p.peers)
accepted_none left written p =
    are_served_same left written p.next p.next (connection_at p.peers) (connection_at p.peers) refl (λ k. refl)
