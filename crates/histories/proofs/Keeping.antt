-- What one request keeps, on which the laws of histories rest.
use Rattle.std.proofs.Common.{◌≡◌, ◌<◌, ◌⊎◌, ◌∷◌}
use Rattle.histories.specs.Words.{ℕ, true, [], Some, None, ⊤, list_any, Text, same, get, Broker, Waiting, Evolves}
use Rattle.histories.specs.Words.{OriginIsGone, IsTakenOut, WaitedBefore, are_new, use_up, Outcome, ok, Asking}
use Rattle.histories.specs.Words.{AskedAt, History, clocked, KeepsReply}

-- The response of the origin o is handed out: it waited at the request's clock, its text is the answer, and neither its
-- origin nor its wrapping token waits any more.
pub record HandedOut (a : Asking) (o : Text) : Type 0 where
  pub token : Text
  pub entry : Waiting
  pub waited : get (clocked a).waiting token ≡ Some entry
  pub origin : entry.origin ≡ o
  pub response : a.outcome.response ≡ ok entry.reply
  pub gone : OriginIsGone a.outcome.next o
  pub out : IsTakenOut a.outcome.next token

-- the wrapping of this request made the origin of the response w, whose text is the body; it told its wrapping token
pub record IsBorn (a : Asking) (body : Text) (w : Waiting) : Type 0 where
  pub origin : a.outcome.born ≡ Some w.origin
  pub reply : w.reply ≡ body
  pub kept : KeepsReply a body w.origin

-- What a request keeps; body is that of its reply without a wrap TTL.
pub record Keeps (body : Asking → Text) (a : Asking) : Type 0 where
  pub evolves : Evolves (clocked a) a.outcome.next
  pub taken_are_new : are_new a.broker.used a.outcome.taken ≡ true
  pub taken_are_used : a.outcome.next.used ≡ use_up a.broker.used a.outcome.taken
  pub hands_out : (o : Text) → a.outcome.handed ≡ Some o → HandedOut a o
  pub born_is_taken : (o : Text) → a.outcome.born ≡ Some o → list_any (same o) a.outcome.taken ≡ true
  pub waits : (t : Text) (w : Waiting) → get a.outcome.next.waiting t ≡ Some w
      → WaitedBefore a.broker w ⊎ IsBorn a (body a) w

-- from the broker b on, each request was asked of the broker that the one before it left, and keeps that
abbrev pub EachKeeps : (Asking → Text) → Broker → History → Type 0
EachKeeps body b [] = ⊤
EachKeeps body b (None ∷ later) = EachKeeps body b later
EachKeeps body b (Some a ∷ later) = (a.broker ≡ b) × Keeps body a × EachKeeps body a.outcome.next later

-- What is given out is new and is marked then, and each origin of a response that waits is that of one that did, or is
-- given out.
pub record Marks (now : Broker) (o : Outcome) : Type 0 where
  pub new : are_new now.used o.taken ≡ true
  pub marked : o.next.used ≡ use_up now.used o.taken
  pub origins : (t : Text) (w : Waiting) → get o.next.waiting t ≡ Some w
      → ((u : Text) × (v : Waiting) × (get now.waiting u ≡ Some v) × (w.origin ≡ v.origin))
      ⊎ (list_any (same w.origin) o.taken ≡ true)

-- from the broker b on, each request was asked of the broker that the one before it left, and marks so
abbrev pub EachMarks : Broker → History → Type 0
EachMarks b [] = ⊤
EachMarks b (None ∷ later) = EachMarks b later
EachMarks b (Some a ∷ later) = (a.broker ≡ b) × Marks (clocked a) a.outcome × EachMarks a.outcome.next later

-- an earlier request than that at the place made the origin of the response w, whose text is its body
pub record WasBorn (body : Asking → Text) (history : History) (place_of_it : ℕ) (w : Waiting) : Type 0 where
  pub place : ℕ
  pub earlier : place < place_of_it
  pub asking : Asking
  pub asked : AskedAt history place asking
  pub born : IsBorn asking (body asking) w
