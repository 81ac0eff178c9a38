-- What each way of serving gives is what its front gives.
use Rattle.std.proofs.Common.{◌≡◌, ℕ, Bool, true, List, Some, None, Result, Ok, Err, IfOk, OnOk, sym, subst}
use Rattle.broker_model.specs.Words.{Fault, Status, Words, Response, Broker, Ask, step, Rows, Kept, IsHonestStore}
use Rattle.broker_rows.specs.Words.{HasClock, Represents}
use Rattle.http_layer.specs.Words.{asked, RefusalParts, front_refused, closes, refused_with, whole, IsFront, HeadParts}
use Rattle.http_layer.specs.Words.{IsReply}
use Rattle.hub.specs.Words.{IsRequestReply, request_closes, request_effect, IsServed, ServesFront, Served}

-- a front is refused, and the store is not asked
pub refusal_serves : (r : Result Served Fault) (rest : List ℕ) (status : Status) (store : Kept) (m : ℕ) (w : Words)
    → IsFront rest (refused_with status)
    → IfOk r (λ s. IsReply (front_refused status) m true s.bytes.items) → IfOk r (λ s. s.len ≡ None)
    → IfOk r (λ s. s.closes ≡ true)
    → IfOk r (ServesFront store store m w rest)
refusal_serves (Err e) rest status store m w front reply len closing = tt
refusal_serves (Ok s) rest status store m w front reply len closing =
    record {
      front = refused_with status;
      is_front = front;
      len = len;
      closes = closing;
      reply = reply;
      broker = λ honest b held. record { reply = reply; broker = held };
      clock = λ honest. tt;
    }

-- what was served is the reply to a whole request
pub record RequestServed (old new : Kept) (m : ℕ) (w : Words) (p : HeadParts) (body : List ℕ)
    (s : Served) : Type 0 where
  pub closes : s.closes ≡ request_closes p (asked p body)
  pub reply : IsRequestReply m (request_closes p (asked p body)) (asked p body) s.bytes.items
  pub broker : IsHonestStore new → (b : Broker) → Represents None old.rows b
      → IsServed (request_effect b m w (asked p body)) m (request_closes p (asked p body)) s.bytes.items new.rows
  pub clock : IsHonestStore new → OnOk (asked p body) (HasClock old.rows)

pub request_serves : (r : Result Served Fault) (rest : List ℕ) (len : ℕ) (p : HeadParts) (body : List ℕ)
    (old new : Kept) (m : ℕ) (w : Words)
    → IsFront rest (whole len p body) → IfOk r (λ s. s.len ≡ Some len)
    → IfOk r (RequestServed old new m w p body) → IfOk r (ServesFront old new m w rest)
request_serves (Err e) rest len p body old new m w front told served = tt
request_serves (Ok s) rest len p body old new m w front told served =
    record {
      front = whole len p body;
      is_front = front;
      len = told;
      closes = served.closes;
      reply = served.reply;
      broker = served.broker;
      clock = served.clock;
    }

-- ---- what a request that asks the broker gives

pub asked_served : (b : Broker) (m : ℕ) (w : Words) (p : HeadParts) (x : Result Ask RefusalParts) (ask : Ask)
    (a : Response) (close : Bool)
    (bytes : List ℕ) (rows : Rows)
    → x ≡ Ok ask → close ≡ closes p → a ≡ (step b m w ask).response → IsReply a m close bytes
    → Represents None rows (step b m w ask).next
    → IsServed (request_effect b m w x) m (request_closes p x) bytes rows
asked_served b m w p x ask a close bytes rows is same response reply held =
    subst (λ (y : Result Ask RefusalParts). IsServed (request_effect b m w y) m (request_closes p y) bytes rows)
    (sym is)
    (record {
      reply = subst (λ (c : Bool). IsReply (step b m w ask).response m c bytes) same
          (subst (λ (t : Response). IsReply t m close bytes) response reply);
      broker = held;
    })
