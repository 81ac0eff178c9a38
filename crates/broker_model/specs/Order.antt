-- The order of one request: what is answered, what is there afterwards, and which identifiers were given out (Vault's
-- documentation, "Tokens", use limits; "Policies"; "Response wrapping"; the order is this project's).
--
-- 1. The clock moves on, and what has ended is gone.
-- 2. An open request has no caller. Else the client token is found; a wrapping token is removed and denied.
-- 3. The caller spends a use, if its uses are limited.
-- 4. Policies allow the path, unless the request is open.
-- 5. There is a route, and the body and the version can be read.
-- 6. The identifiers that the request needs are new, and a request to wrap has a wrap TTL.
-- 7. The operation runs.
-- 8. A reply of status 200 is wrapped, if a wrap TTL asks for it.
-- 9. A caller without uses left ends, with its descendants.
--
-- A refusal at any step keeps the clock, what the clock ended, the response that step 2 removed and the use of step 3
-- (with step 9), and nothing else.
use Rattle.std.specs.Prelude.{◌≡◌, ◌≢◌, ◌⊎◌, ◌∷◌, ◌&&◌, ◌||◌, if◌then◌else◌, ℕ, List, [], Bool, not, nat_lt, Option, Ok}
use Rattle.records.specs.Words.{Some, None, Result, Err, is_some, Text, get, put, without, token_text, Broker, Waiting}
use Rattle.records.specs.Words.{at_moment, Response, refused, Evolves, WaitedBefore, Names, Answered, nothing, reply}
use Rattle.records.specs.Words.{kept_text, missing, Done, ◌>>=◌, unless, spend, end_spent, drop_waiting, are_new}
use Rattle.records.specs.Words.{use_up, Verb, Reply, Refusal}
use Rattle.broker_types.specs.declared.refusal.Refusal.TheVariants as refusal
use Rattle.broker_types.specs.declared.refusal.Reason.TheVariants as reason
use Rattle.broker_types.specs.declared.refusal.Denial.TheVariants as denial
use Rattle.api_json.specs.Words.{wrap_object, reply_text, wrap_reply}
use Rattle.api_json.specs.declared.wrapping_objects.WrapObject.{WrapObject}
use Rattle.broker_model.specs.Responses.{ok, no_content, not_found}
use Rattle.broker_model.specs.Request.{Request}
use Rattle.broker_model.specs.Traits.{Traits}

-- ---- what an operation leaves

-- what it left, and the origin of the response that its wrapping made
pub record Wrapped : Type 0 where
  pub done : Done
  pub born : Option Text

-- What a request leaves: its response, the next broker, the identifiers given out, the origin of the response that was
-- handed out, and that of the response that was kept.
pub record Outcome : Type 0 where
  pub response : Response
  pub next : Broker
  pub taken : List Text
  pub handed : Option Text
  pub born : Option Text

-- ---- the caller

-- 403 `permission denied`
abbrev pub permission_denied : Refusal
permission_denied = refusal.Forbidden denial.PermissionDenied

-- the broker denies the request, and gives out nothing
abbrev pub denied : Broker → Outcome
denied b = record { response = refused permission_denied; next = b; taken = []; handed = None; born = None }

-- what the client token leads to: a wrapping token is removed, and one that is not there is denied
abbrev pub for_caller : Broker → Option Text → (Text → Outcome) → Outcome
for_caller b None go = denied b
for_caller b (Some t) go =
    if is_some (get b.waiting t) then denied (drop_waiting b t)
    else (if is_some (get b.tokens t) then go t else denied b)

-- ---- wrapping (Vault's documentation, "Response wrapping")

-- a wrapping token and the response that waits under it, with the accessor of the token that the kept reply made
abbrev pub wrap_of : Text → Waiting → Option Text → WrapObject
wrap_of t w made =
    record {
      accessor = w.accessor;
      creation_path = w.path;
      created = w.created;
      token = t;
      ttl = w.ttl;
      wrapped_accessor = made;
    }

-- what the reply says of a wrapping token
abbrev pub wrap_info : Text → Waiting → Option Text → Text
wrap_info t w made = wrap_object (wrap_of t w made)

-- the reply, as it waits under its wrapping token
abbrev pub kept_entry : Broker → Text → ℕ → Names → Reply → Waiting
kept_entry b path ttl names r =
    record {
      accessor = names.wrapping_accessor;
      created = b.clock;
      ttl = ttl;
      path = path;
      origin = names.wrapping_token;
      reply = reply_text r;
    }

-- the reply is kept, and the caller gets a wrapping token in its place
abbrev pub wrap : Broker → Text → ℕ → Names → Done → Reply → Option Text → Wrapped
wrap b path ttl names d r made =
    let entry = kept_entry b path ttl names r in
    let token = token_text names.wrapping_token in
    record {
      done = record {
        answered = reply (wrap_reply names.request (wrap_info token entry made)) None;
        next = record d.next { waiting = put d.next.waiting token entry };
        taken = names.wrapping_token ∷ names.wrapping_accessor ∷ d.taken;
        handed = d.handed;
      };
      born = Some names.wrapping_token;
    }

-- not wrapped
abbrev pub unwrapped : Done → Wrapped
unwrapped d = record { done = d; born = None }

-- only a reply of status 200 is wrapped
abbrev pub wrap_200 : Broker → Text → ℕ → Names → Done → Answered → Wrapped
wrap_200 b path ttl names d nothing = unwrapped d
wrap_200 b path ttl names d (reply r made) = wrap b path ttl names d r made
wrap_200 b path ttl names d (kept_text t) = unwrapped d
wrap_200 b path ttl names d (missing r) = unwrapped d

-- ---- the answer

-- the response of what an operation answered (RFC 9110, section 15)
abbrev pub response_to : Answered → Response
response_to nothing = no_content
response_to (reply r made) = ok (reply_text r)
response_to (kept_text t) = ok t
response_to (missing r) = not_found (reply_text r)

-- the broker that an operation left, with the identifiers that it gave out
abbrev pub counted : Done → Broker
counted d = record d.next { used = use_up d.next.used d.taken }

-- what is left when the request has been served, or refused
abbrev pub finish : Broker → Option Text → Result Wrapped Refusal → Outcome
finish b c (Err r) = record { response = refused r; next = end_spent b c; taken = []; handed = None; born = None }
finish b c (Ok v) =
    record {
      response = response_to v.done.answered;
      next = end_spent (counted v.done) c;
      taken = v.done.taken;
      handed = v.done.handed;
      born = v.born;
    }

-- ---- the order

module _ {Command : Type 0} (permits : Broker → Option Text → Verb → Text → Bool) (traits : Command → Traits)
    (act : Broker → Option Text → Names → Command → Result Done Refusal) where
  -- whether the reply of this command is wrapped
  abbrev pub wraps : Request Command → Command → Bool
  wraps q command = nat_lt 0 q.wrap_ttl && (traits command).may_wrap

  -- the identifiers that the request needs
  abbrev pub needed : Request Command → Names → Command → List Text
  needed q names command =
      if wraps q command then names.wrapping_token ∷ names.wrapping_accessor ∷ (traits command).own names
      else (traits command).own names

  -- what the operation left, wrapped if it is to be
  abbrev pub wrapped : Broker → Request Command → Names → Command → Done → Wrapped
  wrapped b q names command d =
      if wraps q command then wrap_200 b q.path q.wrap_ttl names d d.answered else unwrapped d

  -- identifiers, operation, wrapping: what a command leads to
  abbrev pub carried_out : Broker → Option Text → Request Command → Names → Command → Result Wrapped Refusal
  carried_out b c q names command = do
    fresh ← unless (are_new b.used (needed q names command)) refusal.IdentifierUsed
    asked ← unless (not (traits command).must_wrap || nat_lt 0 q.wrap_ttl) (refusal.BadRequest reason.WrappingRequired)
    done ← act b c names command
    Ok (wrapped b q names command done)

  -- policies, route and body, and what the command leads to
  abbrev pub serve : Broker → Option Text → Request Command → Names → Result Wrapped Refusal
  serve b c q names = do
    allowed ← unless (q.is_open || permits b c q.verb q.path) permission_denied
    command ← q.command b
    carried_out b c q names command

  -- the order of one request, for any policies, commands and operations
  abbrev pub ordered : Broker → ℕ → Request Command → Names → Outcome
  ordered b moment q names =
      let now = at_moment b moment in
      if q.is_open then finish now None (serve now None q names)
      else for_caller now q.token (λ c. finish (spend now c) (Some c) (serve (spend now c) (Some c) q names))

-- ---- operations

-- The response of the origin o is handed out: it waited, its text is the answer, and it is gone; all others wait as
-- they did (Vault's documentation, "Response wrapping", single use). So it is not moved to another wrapping token
-- either.
pub record HandsOut (b : Broker) (d : Done) (o : Text) : Type 0 where
  pub token : Text
  pub entry : Waiting
  pub waited : get b.waiting token ≡ Some entry
  pub origin : entry.origin ≡ o
  pub text : d.answered ≡ kept_text entry.reply
  pub waits : d.next.waiting ≡ without b.waiting token

-- What each operation keeps, by its own identifiers. It gives them out or none: none with a 204 or a 404. It marks none
-- as used, which the order does; a 404 changes nothing; what it hands out waited until then, and a kept text is
-- answered only so; no response begins to wait, which only the wrapping of the order makes it do; and the broker
-- evolves.
pub record IsProper (b : Broker) (own : List Text) (d : Done) : Type 0 where
  pub used : d.next.used ≡ b.used
  pub gives_own : (d.taken ≡ []) ⊎ (d.taken ≡ own)
  pub none_at_204 : d.answered ≡ nothing → d.taken ≡ []
  pub none_at_404 : (r : Reply) → d.answered ≡ missing r → (d.next ≡ b) × (d.taken ≡ [])
  pub hands_out : (o : Text) → d.handed ≡ Some o → HandsOut b d o
  pub keeps_text : (t : Text) → d.answered ≡ kept_text t → d.handed ≢ None
  pub none_born : (t : Text) (w : Waiting) → get d.next.waiting t ≡ Some w → WaitedBefore b w
  pub evolves : Evolves b d.next
