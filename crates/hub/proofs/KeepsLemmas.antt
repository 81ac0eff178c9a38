-- Which faults a call has, and what it leaves of the store.
use Rattle.std.specs.Prelude.{◌≡◌, ◌≢◌, ◌||◌, ℕ, Bool, true, false, [], Vec, Result, Ok, Err, IsTrue, MatchResult, refl}
use Rattle.broker_model.specs.Words.{◌∙◌, sym, ap, subst, arith, Global, Fault, Storage, Kept, IsHonestStore}
use Rattle.hub.specs.Words.{IsLater, Keeps, HubRepresents, hub_store, IsAllowed, IsUnanswered, KeepsStore, World, Hub}
use Rattle.hub.specs.Words.{ConnectionFault, Broker, Read, Write}
use Rattle.hub.proofs.AnswersLemmas.{honest_before, later_still}
use Rattle.hub.proofs.EndingLemmas.{not_storage}

-- ---- one call

-- it returned
pub keeps_ok : {S A : Type 0} (seen : S → Kept) (F W : Type 0) (a : A) (old new : Hub S)
    → (IsHonestStore (hub_store seen new) → (hub_store seen new).is_open ≡ (hub_store seen old).is_open)
    → IsLater (hub_store seen old) (hub_store seen new) → KeepsStore seen F W (Ok a) old new
keeps_ok seen F W a old new same later =
    record {
      wants = λ honest w represents. tt;
      read = λ is. cc is;
      write = λ is. cc is;
      storage = λ is. cc is;
      stays_open = same;
      later = later;
    }

-- nothing was done
pub keeps_none : {S A : Type 0} (seen : S → Kept) (F W : Type 0) (a : A) (hub : Hub S)
    → KeepsStore seen F W (Ok a) hub hub
keeps_none seen F W a hub =
    keeps_ok seen F W a hub hub (λ honest. refl) (record { mismatches = omega arith; closes = λ open_. open_ })

-- an event was answered
pub keeps_one : {S A : Type 0} (seen : S → Kept) (F W : Type 0) (a : A) (reply : Vec ℕ Global) (old new : Hub S)
    → Keeps (hub_store seen old) (hub_store seen new) (Ok reply) → KeepsStore seen F W (Ok a) old new
keeps_one seen F W a reply old new k = keeps_ok seen F W a old new (λ honest. k.stays_open honest refl) k.later

-- an event had a fault
pub keeps_feeding : {S A : Type 0} (seen : S → Kept) (F W : Type 0) (fault : Fault) (old new : Hub S)
    → Keeps {A = Vec ℕ Global} (hub_store seen old) (hub_store seen new) (Err fault)
    → KeepsStore {A = A} seen F W (Err (Broker fault)) old new
keeps_feeding seen F W fault old new k =
    record {
      wants = λ honest w represents. k.wants honest w.broker represents.broker;
      read = λ is. cc is;
      write = λ is. cc is;
      storage = λ is. let same : fault ≡ Storage = cc is in k.storage (ap Err same);
      stays_open = λ honest other. k.stays_open honest
          (not_storage (Vec ℕ Global) fault (λ is. other (ap (λ (f : Fault). Broker f) is)));
      later = k.later;
    }

-- the end of a source or a sink that failed
pub failed_now : (before now : Bool) → now ≡ (before || true) → IsTrue now
failed_now true now is = is
failed_now false now is = is

end_allowed : (conn : ℕ) (fault : ConnectionFault) → IsUnanswered conn fault [] → IsAllowed fault
    × (fault ≢ Broker Storage)
end_allowed conn (Broker fault) (e, of, is) = let bad : ⊥ = cc is in absurd bad
end_allowed conn Read is = (tt, λ bad. cc bad)
end_allowed conn Write is = (tt, λ bad. cc bad)

-- ---- one call after another

-- a call that returned, and then the connection was closed since an end failed
pub keeps_closing : {S A B : Type 0} (seen : S → Kept) (conn : ℕ) (F W G V : Type 0) (fault : ConnectionFault) (a : B)
    (old mid new : Hub S)
    → IsUnanswered conn fault [] → (fault ≡ Read → F) → (fault ≡ Write → W) → KeepsStore seen G V (Ok a) old mid
    → hub_store seen new ≡ hub_store seen mid → KeepsStore {A = A} seen F W (Err fault) old new
keeps_closing seen conn F W G V fault a old mid new none read write k same =
    let ends = end_allowed conn fault none in
    record {
      wants = λ honest w represents. ends.0;
      read = λ is. read (cc is);
      write = λ is. write (cc is);
      storage = λ is. absurd (ends.1 (cc is));
      stays_open = λ honest other. ap (λ (s : Kept). s.is_open) same ∙ k.stays_open (subst IsHonestStore same honest);
      later = subst (IsLater (hub_store seen old)) (sym same) k.later;
    }

-- an event was answered, and writing its reply failed
pub keeps_writing : {S A : Type 0} (seen : S → Kept) (conn : ℕ) (F W : Type 0) (reply : Vec ℕ Global)
    (old mid new : Hub S) → W
    → Keeps (hub_store seen old) (hub_store seen mid) (Ok reply) → hub_store seen new ≡ hub_store seen mid
    → KeepsStore {A = A} seen F W (Err Write) old new
keeps_writing seen conn F W reply old mid new failed k same =
    keeps_closing seen conn F W ⊥ ⊥ Write (tt {0}) old mid new refl (λ is. cc is) (λ is. failed)
    (keeps_one seen ⊥ ⊥ (tt {0}) reply old mid k) same

open_on : {A : Type 0} (r : Result A ConnectionFault) (x m o : Bool)
    → MatchResult r (λ _. x ≡ m) (λ fault. fault ≢ Broker Storage → x ≡ m) → m ≡ o
    → MatchResult r (λ _. x ≡ o) (λ fault. fault ≢ Broker Storage → x ≡ o)
open_on (Ok a) x m o same first = same ∙ first
open_on (Err fault) x m o same first = λ other. same other ∙ first

pub keeps_on : {S A B : Type 0} (seen : S → Kept) (F W G V : Type 0) (a : A) (r : Result B ConnectionFault)
    (old mid new : Hub S)
    → (IsHonestStore (hub_store seen mid) → (w : World) → HubRepresents seen old w → (v : World)
    × HubRepresents seen mid v)
    → KeepsStore seen G V (Ok a) old mid → KeepsStore seen F W r mid new → KeepsStore seen F W r old new
keeps_on seen F W G V a r old mid new worlds first second =
    let before = honest_before (hub_store seen mid) (hub_store seen new) second.later.mismatches in
    record {
      wants = λ honest w represents. let v = worlds (before honest) w represents in second.wants honest v.0 v.1;
      read = second.read;
      write = second.write;
      storage = second.storage;
      stays_open = λ honest. open_on r (hub_store seen new).is_open (hub_store seen mid).is_open
          (hub_store seen old).is_open
          (second.stays_open honest) (first.stays_open (before honest));
      later = later_still (hub_store seen old) (hub_store seen mid) (hub_store seen new) first.later second.later;
    }

-- ---- other words

-- the same fault of another call, with another cause of a fault of reading
pub keeps_err : {S A B : Type 0} (seen : S → Kept) (F G W : Type 0) (fault : ConnectionFault) (old new : Hub S)
    → (F → G)
    → KeepsStore {A = A} seen F W (Err fault) old new → KeepsStore {A = B} seen G W (Err fault) old new
keeps_err seen F G W fault old new causes k =
    record {
      wants = k.wants;
      read = λ is. let same : fault ≡ Read = cc is in causes (k.read (ap Err same));
      write = λ is. let same : fault ≡ Write = cc is in k.write (ap Err same);
      storage = λ is. let same : fault ≡ Broker Storage = cc is in k.storage (ap Err same);
      stays_open = k.stays_open;
      later = k.later;
    }
