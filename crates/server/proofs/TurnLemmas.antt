-- What one turn of a peer leaves.
use Rattle.std.proofs.Common.{◌≡◌, ◌≢◌, ◌∷◌, ◌++◌, ◌∙◌, ℕ, Bool, true, false, List, [], Option, None, Some, Result, Ok}
use Rattle.std.proofs.Common.{Err, IfErr, MatchResult, length, refl, sym, ap, subst, append-nil, arith, flat_map, All}
use Rattle.std.proofs.Common.{take, drop, take-append-drop}
use Rattle.std.proofs.KnownBytes.{Appends-nil, Consumes-nil}
use Rattle.std.specs.Io.KnownBytes.{Appends, Consumes, Keeps, WriteAppends}
use Rattle.std.specs.List.{concat}
use Rattle.records.specs.Words.{All-nil, Fault, Memory, Storage, Damaged, BadStart, Kept}
use Rattle.hub.specs.ServedConnection.{LeavesOthers, pieces_in}
use Rattle.hub.specs.Words.{hub_store, IsAllowed, IsStepOf, Step, answers_of, fed_in, answers_each, fed_answers}
use Rattle.hub.specs.Words.{fed_stopped, stop_of, steps_none, replies_in, reply_by, steps_proceeding, steps_stopping}
use Rattle.hub.specs.Words.{stops_each, KeepsStore, Passes, TurnsLink, number_of, unsent}
use Rattle.hub.specs.declared.event.Event.{Event}
use Rattle.hub.specs.declared.hub.Hub.{Hub}
use Rattle.hub.specs.declared.link.Link.{Link}
use Rattle.hub.specs.declared.serve.ConnectionFault.{ConnectionFault}
use Rattle.hub.specs.declared.serve.ConnectionFault.TheVariants.{Broker}
use Rattle.hub.specs.declared.turn.Turn.{Turn}
use Rattle.server.specs.Accepted.{Connection, IsServed}
use Rattle.server.specs.Numbers.{connection_of, KeepsEnds}
use Rattle.server.specs.Patience.{is_farewell}
use Rattle.server.specs.ServedHub.{is_skipped}
use Rattle.server.specs.Serving.{EndsBy, TurnsPeer}
use Rattle.server.specs.declared.peer.Peer.{Peer}
use Rattle.server.proofs.AcceptedLemmas.{replies_on}

-- ---- how a turn ends

-- what is said of the fault that ends the whole, if the end of a turn does
abbrev pub IsUnskipped : {A B : Type 0} → Result A ConnectionFault → Result B Fault → Type 0
IsUnskipped end r = MatchResult r (λ _. IfErr end (λ fault. is_skipped fault ≡ true))
    (λ fault. (end ≡ Err (Broker fault)) × (fault ≢ Memory))

pub unskipped_of : {B : Type 0} (end : ConnectionFault) (r : Result B Fault)
    → MatchResult r (λ _. is_skipped end ≡ true) (λ fault. (end ≡ Broker fault) × (fault ≢ Memory))
    → IsUnskipped {A = Turn} (Err end) r
unskipped_of end (Ok b) is = is
unskipped_of end (Err fault) is = (ap Err is.0, is.1)

skipped_by : {A B : Type 0} (end : Result A ConnectionFault) (r : Result B Fault) → IsUnskipped end r
    → IfErr r (λ fault. fault ≢ Memory)
skipped_by end (Ok b) is = tt
skipped_by end (Err fault) is = is.1

storage_by : {A B : Type 0} (end : Result A ConnectionFault) (r : Result B Fault) → IsUnskipped end r
    → r ≡ Err Storage → end ≡ Err (Broker Storage)
storage_by end (Ok b) is e = cc e
storage_by end (Err fault) is e = let f : fault ≡ Storage = cc e in is.0 ∙ ap (λ (x : Fault). Err (Broker x)) f

-- a skipped fault is none of the storage
skipped_other : (fault : ConnectionFault) → is_skipped fault ≡ true → fault ≢ Broker Storage
skipped_other fault skipped is = let bad : false ≡ true = sym (ap is_skipped is) ∙ skipped in cc bad

open_by : {A B : Type 0} (end : Result A ConnectionFault) (r : Result B Fault) (x o : Bool) → IsUnskipped end r
    → MatchResult end (λ _. x ≡ o) (λ fault. fault ≢ Broker Storage → x ≡ o)
    → MatchResult r (λ _. x ≡ o) (λ fault. fault ≢ Storage → x ≡ o)
open_by (Ok a) (Ok b) x o is same = same
open_by (Err fault) (Ok b) x o is same = same (skipped_other fault is)
open_by (Ok a) (Err fault) x o is same = cc is.0
open_by (Err end) (Err fault) x o is same = λ other.
    let e : end ≡ Broker fault = cc is.0 in
    same (λ bad. let f : Broker fault ≡ Broker Storage = sym e ∙ bad in other (cc f))

-- on a broker's rows
allowed : (fault : Fault) → IsAllowed (Broker fault) → fault ≢ Memory → fault ≡ Storage
allowed Memory is other = absurd (other refl)
allowed Storage is other = refl
allowed Damaged is other = absurd is
allowed BadStart is other = absurd is

unwanted : {A B : Type 0} (end : Result A ConnectionFault) (r : Result B Fault) → IsUnskipped end r
    → IfErr end IsAllowed
    → IfErr r (λ fault. fault ≡ Storage)
unwanted (Ok a) (Ok b) is want = tt
unwanted (Err end) (Ok b) is want = tt
unwanted (Ok a) (Err fault) is want = cc is.0
unwanted (Err end) (Err fault) is want =
    let e : end ≡ Broker fault = cc is.0 in
    allowed fault (subst IsAllowed e want) is.1

ends_turn : {B S : Type 0} (seen : S → Kept) (ReadFails WriteFails : Type 0) (end : Result Turn ConnectionFault)
    (r : Result B Fault) (old new : Hub S)
    → IsUnskipped end r → KeepsStore seen ReadFails WriteFails end old new → EndsBy seen r old new
ends_turn seen ReadFails WriteFails end r old new is keeps = record {
  skipped = skipped_by end r is;
  storage = λ e. keeps.storage (storage_by end r is e);
  stays_open = λ honest. open_by end r (hub_store seen new).is_open (hub_store seen old).is_open is
      (keeps.stays_open honest);
  wants = λ honest open_ w represents. unwanted end r is (keeps.wants honest w represents);
}

pub ends_none : {B S : Type 0} (seen : S → Kept) (b : B) (old new : Hub S) → hub_store seen new ≡ hub_store seen old
    → EndsBy seen (Ok b) old new
ends_none seen b old new same = record {
  skipped = tt;
  storage = λ is. cc is;
  stays_open = λ honest. ap (λ (k : Kept). k.is_open) same;
  wants = λ honest open_ w represents. tt;
}

-- ---- the replies of a turn

answers_replies : (es : List Event) (rs : List (List ℕ)) → length rs ≡ length es
    → flat_map reply_by (answers_of es rs) ≡ rs
answers_replies [] [] same = refl
answers_replies [] (r ∷ rs) same = absurd (omega (arith, same))
answers_replies (e ∷ es) [] same = absurd (omega (arith, same))
answers_replies (e ∷ es) (r ∷ rs) same = ap (λ (l : List (List ℕ)). r ∷ l) (answers_replies es rs (omega (arith, same)))

stop_silent : (conn : ℕ) (last : List Event) → replies_in (stop_of conn last) ≡ []
stop_silent conn [] = refl
stop_silent conn (e ∷ es) = refl

stopped_replies : (conn : ℕ) (last es : List Event) (rs : List (List ℕ)) → length rs ≡ length es
    → replies_in (answers_of es rs ++ stop_of conn last) ≡ concat rs
stopped_replies conn last es rs same =
    replies_on (answers_of es rs) (stop_of conn last)
    ∙ ap (λ (l : List ℕ). replies_in (answers_of es rs) ++ l) (stop_silent conn last)
    ∙ append-nil (replies_in (answers_of es rs)) ∙ ap concat (answers_replies es rs same)

-- ---- one turn

false_is_true : false ≡ true → ⊥
false_is_true e = cc

-- served by a turn, to its return or up to a fault
turn_served : {R W : Type 0} (left : R → Option (List ℕ)) (written : W → Option (List ℕ)) (own : List Step)
    (o n : Connection R W) (reader : R) (writer : W) (waits : List ℕ)
    → n.reader ≡ reader → n.writer ≡ writer → n.unsent ≡ waits → o.ended ≡ false
    → (n.ended ≡ true → n.unsent ≡ [])
    → Consumes (left o.reader) (left reader) (pieces_in (fed_in own))
    → Passes (Appends (written o.writer) (written writer)) o.unsent waits (replies_in own)
    → IsServed left written own o n
turn_served {R} {W} left written own o n reader writer waits is_reader is_writer is_waits going sent reads sends =
    record {
      passed = [];
      reads = subst (Consumes (left o.reader) (left n.reader)) (sym (append-nil (pieces_in (fed_in own))))
          (subst (λ (r : R). Consumes (left o.reader) (left r) (pieces_in (fed_in own))) (sym is_reader) reads);
      sends = subst (λ (l : List ℕ). Passes (Appends (written o.writer) (written n.writer)) o.unsent l (replies_in own))
          (sym is_waits)
          (subst (λ (w : W). Passes (Appends (written o.writer) (written w)) o.unsent waits (replies_in own))
          (sym is_writer) sends);
      going = λ _. refl;
      sent = λ _ ended. sent ended;
      stays = λ ended. absurd (false_is_true (sym going ∙ ended));
    }

pub turned_ok : {B S R W : Type 0} (seen : S → Kept) (left : R → Option (List ℕ)) (written : W → Option (List ℕ))
    (X : List Event → Type 0) (ReadFails WriteFails : Type 0) (b : B) (turn : Turn) (o n : Peer R W) (link : Link)
    (reader : R) (writer : W) (old new : Hub S)
    → n.reader.source ≡ reader → n.writer.sink ≡ writer → n.link ≡ link → is_farewell o.wait ≡ false
    → (is_farewell n.wait ≡ true → unsent n.link ≡ [])
    → TurnsLink seen o.link link (Consumes (left o.reader.source) (left reader))
    (Appends (written o.writer.sink) (written writer)) X ReadFails WriteFails (Ok turn) old new
    → TurnsPeer seen left written X (Ok b) o n old new
turned_ok seen left written X ReadFails WriteFails b turn o n link reader writer old new is_reader is_writer is_link
    going sent t =
    let conn = number_of o.link in
    let p = t.took.on in
    let es = p.exchange.events in
    let rs = p.exchange.replies in
    record {
      steps = answers_of es rs;
      between = steps_proceeding seen conn _ _ X old new t.keeps.later p;
      own = answers_each conn es rs p.exchange.of_connection p.exchange.listed;
      served = turn_served left written (answers_of es rs) (connection_of o) (connection_of n) reader writer
          (unsent link) is_reader is_writer (ap unsent is_link) going sent
          (subst (λ (l : List Event). Consumes (left o.reader.source) (left reader) (pieces_in l))
          (sym (fed_answers es rs p.exchange.each)) p.reads)
          (subst (λ (l : List (List ℕ)). Passes (Appends (written o.writer.sink) (written writer)) (unsent o.link)
          (unsent link) (concat l)) (sym (answers_replies es rs p.exchange.each)) p.writes);
      same = ap number_of is_link ∙ t.same;
      others = t.others;
      ends = ends_turn seen ReadFails WriteFails (Ok turn) (Ok b) old new tt t.keeps;
    }

pub turned_err : {B S R W : Type 0} (seen : S → Kept) (left : R → Option (List ℕ)) (written : W → Option (List ℕ))
    (X : List Event → Type 0) (ReadFails WriteFails : Type 0) (r : Result B Fault) (fault : ConnectionFault)
    (o n : Peer R W) (link : Link) (reader : R) (writer : W) (old new : Hub S)
    → n.reader.source ≡ reader → n.writer.sink ≡ writer → n.link ≡ link → is_farewell o.wait ≡ false
    → (is_farewell n.wait ≡ true → unsent n.link ≡ []) → IsUnskipped {A = Turn} (Err fault) r
    → TurnsLink seen o.link link (Consumes (left o.reader.source) (left reader))
    (Appends (written o.writer.sink) (written writer)) X ReadFails WriteFails (Err fault) old new
    → TurnsPeer seen left written X r o n old new
turned_err seen left written X ReadFails WriteFails r fault o n link reader writer old new is_reader is_writer is_link
    going sent is t =
    let conn = number_of o.link in
    let s = t.took.stops in
    let es = s.exchange.events in
    let rs = s.exchange.replies in
    let steps = answers_of es rs ++ stop_of conn s.last in
    record {
      steps = steps;
      between = steps_stopping seen conn _ _ X fault old new t.keeps.later s;
      own = stops_each conn fault s.last s.exchange s.unanswered;
      served = turn_served left written steps (connection_of o) (connection_of n) reader writer
          (unsent link) is_reader is_writer (ap unsent is_link) going sent
          (subst (λ (l : List Event). Consumes (left o.reader.source) (left reader) (pieces_in l))
          (sym (fed_stopped conn fault s.last s.exchange s.unanswered)) s.reads)
          (subst (λ (l : List ℕ). Passes (Appends (written o.writer.sink) (written writer)) (unsent o.link)
          (unsent link) l) (sym (stopped_replies conn s.last es rs s.exchange.each)) t.took.written);
      same = ap number_of is_link ∙ t.same;
      others = t.others;
      ends = ends_turn seen ReadFails WriteFails (Err fault) r old new is t.keeps;
    }

-- ---- no turn

-- nothing was fed
still : {B S R W : Type 0} (seen : S → Kept) (left : R → Option (List ℕ)) (written : W → Option (List ℕ))
    (X : List Event → Type 0) (b : B) (o n : Peer R W) (hub : Hub S) → X []
    → IsServed left written [] (connection_of o) (connection_of n) → n.link ≡ o.link
    → TurnsPeer seen left written X (Ok b) o n hub hub
still seen left written X b o n hub x served is_link = record {
  steps = [];
  between = steps_none seen X hub x;
  own = All-nil (IsStepOf (number_of o.link));
  served = served;
  same = ap number_of is_link;
  others = λ all represents. record { after = all; represents = represents; others = λ k ne. refl };
  ends = ends_none seen b hub hub refl;
}

same_sends : {W : Type 0} (written : W → Option (List ℕ)) (o n : W) (a b : List ℕ) → n ≡ o → b ≡ a
    → Passes (Appends (written o) (written n)) a b []
same_sends {W} written o n a b is_writer is = record {
  sent = [];
  sends = subst (λ (w : W). Appends (written o) (written w) []) (sym is_writer) (Appends-nil (written o));
  whole = append-nil a ∙ sym is;
}

-- what came in a farewell was passed over
pub drained : {B S R W : Type 0} (seen : S → Kept) (left : R → Option (List ℕ)) (written : W → Option (List ℕ))
    (X : List Event → Type 0) (b : B) (o n : Peer R W) (hub : Hub S) → X [] → is_farewell o.wait ≡ true
    → n.wait ≡ o.wait
    → (passed : List ℕ) × Consumes (left o.reader.source) (left n.reader.source) passed
    → n.writer.sink ≡ o.writer.sink → n.link ≡ o.link → TurnsPeer seen left written X (Ok b) o n hub hub
drained seen left written X b o n hub x ended same_wait passed is_writer is_link =
    let is_wait : is_farewell n.wait ≡ is_farewell o.wait = ap is_farewell same_wait in
    still seen left written X b o n hub x
    (record {
      passed = passed.0;
      reads = passed.1;
      sends = same_sends written o.writer.sink n.writer.sink (unsent o.link) (unsent n.link) is_writer
          (ap unsent is_link);
      going = λ going. absurd (false_is_true (sym going ∙ is_wait ∙ ended));
      sent = λ going. absurd (false_is_true (sym going ∙ ended));
      stays = λ e. (is_wait ∙ e, ap unsent is_link, refl, refl);
    })
    is_link

-- all was sent, and a farewell begins
pub done : {B S R W : Type 0} (seen : S → Kept) (left : R → Option (List ℕ)) (written : W → Option (List ℕ))
    (X : List Event → Type 0) (b : B) (o n : Peer R W) (hub : Hub S) → X [] → is_farewell o.wait ≡ false
    → unsent o.link ≡ [] → KeepsEnds o n → TurnsPeer seen left written X (Ok b) o n hub hub
done seen left written X b o n hub x going all_sent keeps =
    still seen left written X b o n hub x
    (turn_served left written [] (connection_of o) (connection_of n) o.reader.source o.writer.sink (unsent o.link)
    keeps.0 keeps.1 (ap unsent keeps.2) going (λ ended. ap unsent keeps.2 ∙ all_sent)
    (Consumes-nil (left o.reader.source))
    (same_sends written o.writer.sink o.writer.sink (unsent o.link) (unsent o.link) refl refl))
    keeps.2

-- some of what was not sent was sent: what is still to be sent is known, if not kept
pub rest_sent : {R W : Type 0} (left : R → Option (List ℕ)) (written : W → Option (List ℕ)) (o : Connection R W)
    (writer : W) (sent after : List ℕ) → o.ended ≡ false → o.unsent ≡ sent ++ after
    → Appends (written o.writer) (written writer) sent
    → IsServed left written [] o (record o { writer = writer; unsent = after })
rest_sent left written o writer sent after going whole sends = record {
  passed = [];
  reads = Consumes-nil (left o.reader);
  sends = record { sent = sent; sends = sends; whole = append-nil o.unsent ∙ whole };
  going = λ _. refl;
  sent = λ _ ended. absurd (false_is_true (sym going ∙ ended));
  stays = λ ended. absurd (false_is_true (sym going ∙ ended));
}

-- a connection of these parts
abbrev made : {R W : Type 0} → R → W → List ℕ → Bool → Connection R W
made reader writer waits ended = record { reader = reader; writer = writer; unsent = waits; ended = ended }

same_connection : {R W : Type 0} (o m : Peer R W) → KeepsEnds o m → m.wait ≡ o.wait
    → connection_of m ≡ connection_of o
same_connection {R} {W} o m keeps wait =
    ap (λ (x : R). made x m.writer.sink (unsent m.link) (is_farewell m.wait)) keeps.0
    ∙ ap (λ (x : W). made o.reader.source x (unsent m.link) (is_farewell m.wait)) keeps.1
    ∙ ap (λ (x : Link). made o.reader.source o.writer.sink (unsent x) (is_farewell m.wait)) keeps.2
    ∙ ap (λ x. made o.reader.source o.writer.sink (unsent o.link) (is_farewell x)) wait

-- a peer that keeps its ends, and then takes its turn
pub cleared : {A S R W : Type 0} (seen : S → Kept) (left : R → Option (List ℕ)) (written : W → Option (List ℕ))
    (X : List Event → Type 0) (r : Result A Fault) (o m n : Peer R W) (old new : Hub S) → KeepsEnds o m
    → m.wait ≡ o.wait → TurnsPeer seen left written X r m n old new → TurnsPeer seen left written X r o n old new
cleared {R = R} {W = W} seen left written X r o m n old new keeps wait t =
    let is : connection_of m ≡ connection_of o = same_connection o m keeps wait in
    let number : number_of m.link ≡ number_of o.link = ap number_of keeps.2 in
    record {
      steps = t.steps;
      between = t.between;
      own = subst (λ (k : ℕ). All (IsStepOf k) t.steps) number t.own;
      served = subst (λ (c : Connection R W). IsServed left written t.steps c (connection_of n)) is t.served;
      same = t.same ∙ number;
      others = λ all represents. subst (λ (k : ℕ). LeavesOthers k all new) number (t.others all represents);
      ends = t.ends;
    }

-- one that goes on has not ended
pub still_going : {R W : Type 0} (n : Peer R W) → is_farewell n.wait ≡ false → is_farewell n.wait ≡ true
    → unsent n.link ≡ []
still_going n going ended = absurd (false_is_true (sym going ∙ ended))

kept_appends : (x y : Option (List ℕ)) → Keeps x y → Appends x y []
kept_appends None y keeps = tt
kept_appends (Some xs) None keeps = absurd keeps
kept_appends (Some xs) (Some ys) keeps = keeps ∙ sym (append-nil xs)

pushed_by : {E : Type 0} (x y : Option (List ℕ)) (r : Result ℕ E) (bytes : List ℕ) → WriteAppends x y r bytes
    → (sent : List ℕ) × (after : List ℕ) × (bytes ≡ sent ++ after) × Appends x y sent
pushed_by x y (Ok n) bytes wrote = (take n bytes, drop n bytes, sym (take-append-drop n bytes), wrote)
pushed_by x y (Err e) bytes kept = ([], bytes, refl, kept_appends x y kept)

-- what was not sent was pushed once
pub pushed : {R W E : Type 0} (left : R → Option (List ℕ)) (written : W → Option (List ℕ)) (o : Connection R W)
    (writer : W) (r : Result ℕ E) (bytes : List ℕ) → o.ended ≡ false → bytes ≡ o.unsent
    → WriteAppends (written o.writer) (written writer) r bytes
    → (after : List ℕ) × IsServed left written [] o (record o { writer = writer; unsent = after })
pushed left written o writer r bytes going is wrote =
    let p = pushed_by (written o.writer) (written writer) r bytes wrote in
    (p.1, rest_sent left written o writer p.0 p.1 going (sym is ∙ p.2) p.3)
