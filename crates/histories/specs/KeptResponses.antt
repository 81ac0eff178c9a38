-- The laws of responses that were kept, as statements: each is handed out once, by an unwrap, and is the reply that was
-- kept (Vault's documentation, "Response wrapping").
use Rattle.std.specs.Prelude.{◌≡◌, ◌≢◌, ◌<◌, ◌≤◌, ◌⊎◌, ◌+◌}
use Rattle.broker_model.specs.Words.{Err, waiting_object, wrap_object, wrap_reply, wrap_info, unwrapped_ask}
use Rattle.histories.specs.Common.{Members, object, compact_text, ℕ, max, List, [], Bool, true, false, Option, Some}
use Rattle.histories.specs.Common.{None, Ok, Result, Text, IsRefused, Response, get, Broker, Waiting, Names, names_of}
use Rattle.histories.specs.Common.{token_text, Refusal, body_members, plain_reply, reply_text, Command, on_wrapping}
use Rattle.histories.specs.Common.{command_of, ok, is_open, step, Status, WrappingCommand}
use Rattle.histories.specs.History.{Asking, AskedAt, History, clocked}
use Rattle.histories.specs.Revocation.{Revokes, RevokesAlone}

-- ---- what was asked, and answered

-- The request was a 200 to an unwrap of the wrapping token t, and the response that waited there has the origin o.
pub record Unwraps (a : Asking) (t o : Text) : Type 0 where
  pub means : command_of (clocked a).mounts a.ask ≡ Ok (on_wrapping (WrappingCommand.Unwrap (Some t)))
  pub success : a.outcome.response.status ≡ Status.Success
  pub entry : Waiting
  pub waited : get (clocked a).waiting t ≡ Some entry
  pub origin : entry.origin ≡ o

-- the request had the wrapping token t as client token, and was not open
pub record HasAsClient (a : Asking) (t : Text) : Type 0 where
  pub token : a.ask.token ≡ Some t
  pub closed : is_open a.ask ≡ false

-- the request was a 200 to a rewrap of the wrapping token t
pub record Rewraps (a : Asking) (t : Text) : Type 0 where
  pub means : command_of (clocked a).mounts a.ask ≡ Ok (on_wrapping (WrappingCommand.Rewrap (Some t)))
  pub success : a.outcome.response.status ≡ Status.Success

-- The request took the wrapping token t out, under which a response waited: it spent it as client token, revoked it by
-- its text or its accessor, or rewrapped it.
pub record TakesTokenOut (a : Asking) (t : Text) : Type 0 where
  pub waited : get (clocked a).waiting t ≢ None
  pub how : HasAsClient a t
      ⊎ (((c : Text) × Revokes a c t) ⊎ (((c : Text) × RevokesAlone a c t) ⊎ Rewraps a t))

-- The wrapping token t ended with the request, in whichever way: a response waited under it before, and none does at
-- the clock or after it.
pub record EndsWrappingToken (a : Asking) (t : Text) : Type 0 where
  pub was : get a.broker.waiting t ≢ None
  pub gone : (get (clocked a).waiting t ≡ None) ⊎ (get a.outcome.next.waiting t ≡ None)

-- ---- what is told of a response that waits

-- a look-up: the path of its request, when its wrapping token was made, and for how long it waits
abbrev pub looked_up_text : Asking → Waiting → Text
looked_up_text a w =
    reply_text (plain_reply (names_of a.words).request (waiting_object w.path w.created w.ttl))

-- a rewrap: its new wrapping token, made at the clock, with the accessor of that; path and TTL are those it had
abbrev pub rewrapped_text : Asking → Waiting → Text
rewrapped_text a w =
    let names = names_of a.words in
    reply_text (wrap_reply names.request (wrap_object (record {
      accessor = names.wrapping_accessor;
      creation_path = w.path;
      created = (clocked a).clock;
      token = token_text names.wrapping_token;
      ttl = w.ttl;
      wrapped_accessor = None;
    })))

-- the answer is a 200 with this text of what waited under the wrapping token that was meant
pub record Tells (a : Asking) (meant : Option Text) (text : Waiting → Text) : Type 0 where
  pub token : Text
  pub is_meant : meant ≡ Some token
  pub entry : Waiting
  pub waited : get (clocked a).waiting token ≡ Some entry
  pub response : a.outcome.response ≡ ok (text entry)

-- ---- handed out once

pub record HandedOutOnce (history : History) : Type 0 where
  -- Each 200 to an unwrap hands out a response that waited under the wrapping token that was meant.
  pub each : (i : ℕ) (a : Asking) (meant : Option Text) → AskedAt history i a
      → command_of (clocked a).mounts a.ask ≡ Ok (on_wrapping (WrappingCommand.Unwrap meant))
      → a.outcome.response.status ≡ Status.Success
      → (t : Text) × (o : Text) × (meant ≡ Some t) × Unwraps a t o
  -- For each origin at most one event hands out its response, whatever rewraps came between.
  pub once : (i j : ℕ) (a x : Asking) (t u o : Text) → AskedAt history i a → Unwraps a t o → AskedAt history j x
      → Unwraps x u o → i ≡ j
  -- At that event the clock, and the moment of the event itself, are before the end of the wrapping token that is
  -- unwrapped: its TTL after it was made.
  pub in_time : (i : ℕ) (a : Asking) (t o : Text) → AskedAt history i a → (h : Unwraps a t o)
      → ((clocked a).clock < h.entry.created + h.entry.ttl) × (a.moment < h.entry.created + h.entry.ttl)
  -- No earlier event took that token out: no 204 that revoked it by its text or its accessor, no 403 that spent it as
  -- client token, no rewrap of it.
  pub still_in : (i j : ℕ) (a x : Asking) (t o : Text) → AskedAt history i a → TakesTokenOut a t
      → AskedAt history j x → i < j → Unwraps x t o → ⊥
  -- Each such event, and each 200 to an unwrap, ended the token.
  pub ended : (i : ℕ) (a : Asking) (t : Text) → AskedAt history i a
      → TakesTokenOut a t ⊎ ((o : Text) × Unwraps a t o) → EndsWrappingToken a t
  -- A wrapping token whose end is at or before the later of an event's moment and the clock before it ended with that
  -- event.
  pub due : (i : ℕ) (a : Asking) (t : Text) (w : Waiting) → AskedAt history i a → get a.broker.waiting t ≡ Some w
      → w.created + w.ttl ≤ max a.broker.clock a.moment → EndsWrappingToken a t
  -- No wrapping token that ended, in these ways or by its end, is in any later state. So it is not looked up either.
  pub out : (i j : ℕ) (a x : Asking) (t : Text) → AskedAt history i a → EndsWrappingToken a t → AskedAt history j x
      → i ≤ j → get x.outcome.next.waiting t ≡ None
  -- An unwrap, a look-up and a rewrap are refused, or answered with a 200. That to an unwrap has the text that waited,
  -- byte for byte. Those to the two others have of what waited no more than its path, its TTL and, for a look-up, when
  -- its wrapping token was made. So they don't depend on the text.
  pub unwraps : (i : ℕ) (a : Asking) (meant : Option Text) → AskedAt history i a
      → command_of (clocked a).mounts a.ask ≡ Ok (on_wrapping (WrappingCommand.Unwrap meant))
      → IsRefused a.outcome.response ⊎ Tells a meant (λ w. w.reply)
  pub looks_up : (i : ℕ) (a : Asking) (meant : Option Text) → AskedAt history i a
      → command_of (clocked a).mounts a.ask ≡ Ok (on_wrapping (WrappingCommand.LookUp meant))
      → IsRefused a.outcome.response ⊎ Tells a meant (looked_up_text a)
  pub rewraps : (i : ℕ) (a : Asking) (meant : Option Text) → AskedAt history i a
      → command_of (clocked a).mounts a.ask ≡ Ok (on_wrapping (WrappingCommand.Rewrap meant))
      → IsRefused a.outcome.response ⊎ Tells a meant (rewrapped_text a)

-- ---- the same reply

-- the object that was read, in its compact form
abbrev pub object_text : Result Members Refusal → Text
object_text (Ok members) = compact_text (object members)
object_text (Err r) = []

-- The answer: that to an ask to wrap, whose step is refused, would be a 200 with the object of the ask's body as its
-- data; that to another is what its step answers.
abbrev pub answer_by : Names → List ℕ → Response → Result Command Refusal → Response
answer_by names body answer (Ok (on_wrapping (WrappingCommand.Wrap wrapped))) =
    ok (reply_text (plain_reply names.request (object_text (body_members body))))
answer_by names body answer _ = answer

-- The answer to the ask without its wrap TTL, in the state, with the moment and the words of the request.
abbrev pub unwrapped_answer : Asking → Response
unwrapped_answer a =
    answer_by (names_of a.words) a.ask.body (step a.broker a.moment a.words (unwrapped_ask a.ask)).response
    (command_of (clocked a).mounts a.ask)

-- its body
abbrev pub unwrapped_body : Asking → Text
unwrapped_body a = (unwrapped_answer a).text

-- the text, kept as the reply to the ask, for its wrap TTL from its clock on; the identifiers are those of its words
abbrev pub first_entry : Asking → Text → Waiting
first_entry a text =
    let names = names_of a.words in
    record {
      accessor = names.wrapping_accessor;
      created = (clocked a).clock;
      ttl = a.ask.wrap_ttl;
      path = a.ask.path;
      origin = names.wrapping_token;
      reply = text;
    }

-- the body that tells the wrapping token of that, with the accessor of a token that was made, if one was
abbrev pub telling_body : Asking → Text → Option Text → Text
telling_body a text made =
    let names = names_of a.words in
    let token = token_text names.wrapping_token in
    reply_text (wrap_reply names.request (wrap_info token (first_entry a text) made))

-- The ask has a wrap TTL. Its answer is 200, and tells the wrapping token under which the text waits then, kept as its
-- reply; the origin o is the identifier of that token. Of a token that was made, the answer tells the accessor alone.
pub record KeepsReply (a : Asking) (text o : Text) : Type 0 where
  pub ttl : 0 < a.ask.wrap_ttl
  pub origin : o ≡ (names_of a.words).wrapping_token
  pub made : Option Text
  pub accessor : (made ≡ None) ⊎ (made ≡ Some (names_of a.words).accessor)
  pub told : a.outcome.response ≡ ok (telling_body a text made)
  pub waits : get a.outcome.next.waiting (token_text o) ≡ Some (first_entry a text)

-- whether the reply to the command is never wrapped: that to a look-up, a rewrap or an unwrap
abbrev pub stays_plain : Command → Bool
stays_plain (on_wrapping (WrappingCommand.LookUp meant)) = true
stays_plain (on_wrapping (WrappingCommand.Rewrap meant)) = true
stays_plain (on_wrapping (WrappingCommand.Unwrap meant)) = true
stays_plain _ = false

-- The answer of event j is 200 with the body that an earlier event would have been answered, as a 200 too; that event
-- made the origin o, told its wrapping token, and kept that body under it.
pub record IsKeptReply (history : History) (j : ℕ) (x : Asking) (o : Text) : Type 0 where
  pub place : ℕ
  pub earlier : place < j
  pub asking : Asking
  pub asked : AskedAt history place asking
  pub born : asking.outcome.born ≡ Some o
  pub kept : KeepsReply asking (unwrapped_body asking) o
  pub plain : unwrapped_answer asking ≡ ok (unwrapped_body asking)
  pub body : x.outcome.response ≡ ok (unwrapped_body asking)

-- Or it is 200 with the text of a response of that origin that waited in b.
pub record WaitedFirst (b : Broker) (x : Asking) (o : Text) : Type 0 where
  pub token : Text
  pub entry : Waiting
  pub waited : get b.waiting token ≡ Some entry
  pub origin : entry.origin ≡ o
  pub body : x.outcome.response ≡ ok entry.reply

-- From the broker b on, what is handed out is what was kept.
pub record HandsOutKept (b : Broker) (history : History) : Type 0 where
  -- at most one event makes an origin
  pub one_birth : (i j : ℕ) (a x : Asking) (o : Text) → AskedAt history i a → AskedAt history j x
      → a.outcome.born ≡ Some o → x.outcome.born ≡ Some o → i ≡ j
  -- what is handed out is the reply that the event which made its origin would have answered, or waited in b
  pub same : (j : ℕ) (x : Asking) (t o : Text) → AskedAt history j x → Unwraps x t o
      → IsKeptReply history j x o ⊎ WaitedFirst b x o
  -- each 200 to an ask with a wrap TTL, but to a look-up, a rewrap or an unwrap, is wrapped: what it would have been
  -- without the wrap TTL is kept as the reply, and the answer tells the wrapping token in its place.
  pub wraps : (i : ℕ) (a : Asking) (command : Command) → AskedAt history i a → 0 < a.ask.wrap_ttl
      → command_of (clocked a).mounts a.ask ≡ Ok command → stays_plain command ≡ false
      → a.outcome.response.status ≡ Status.Success
      → KeepsReply a (unwrapped_body a) (names_of a.words).wrapping_token

-- From a start on, where nothing waits yet:
pub record SameReply (history : History) : Type 0 where
  -- At most one event makes an origin.
  pub one_birth : (i j : ℕ) (a x : Asking) (o : Text) → AskedAt history i a → AskedAt history j x
      → a.outcome.born ≡ Some o → x.outcome.born ≡ Some o → i ≡ j
  -- Where a response is handed out, the answer is a 200, and so is what the event that made its origin would have been
  -- answered without a wrap TTL, in the state, with the moment and the words of that event. The two bodies are the
  -- same, byte for byte.
  pub same : (j : ℕ) (x : Asking) (t o : Text) → AskedAt history j x → Unwraps x t o → IsKeptReply history j x o
  -- Each 200 to an ask with a wrap TTL, but to a look-up, a rewrap or an unwrap, is wrapped: what it would have been
  -- without the wrap TTL is kept as the reply, and the answer tells the wrapping token in its place.
  pub wraps : (i : ℕ) (a : Asking) (command : Command) → AskedAt history i a → 0 < a.ask.wrap_ttl
      → command_of (clocked a).mounts a.ask ≡ Ok command → stays_plain command ≡ false
      → a.outcome.response.status ≡ Status.Success
      → KeepsReply a (unwrapped_body a) (names_of a.words).wrapping_token
