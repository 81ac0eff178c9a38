-- The law of who may make which token, as a statement (Vault's documentation, "Token auth method (API)", create token;
-- "Tokens", token hierarchies and orphan tokens, root tokens, periodic tokens; what `sudo` allows is this project's).
use Rattle.std.specs.Prelude.{◌≡◌, ◌≢◌, ◌⊎◌, ◌<◌, ◌+◌, ◌-◌, ◌∷◌}
use Rattle.broker_model.specs.Words.{is_some, Reply, IsGranted, AuthObject}
use Rattle.histories.specs.Common.{ℕ, min, [], true, false, Some, None, Ok, is_none, unwrap_or, codes, from_entries}
use Rattle.histories.specs.Common.{option_map_or, Text, entries, get, names_of, Token, Broker, are_bytes, Sudo, has}
use Rattle.histories.specs.Common.{auth_object, reply_text, TokenCreation, command_of, on_token, ok, Verb, Status}
use Rattle.histories.specs.Common.{WithoutParent, TokenCommand, Making}
use Rattle.histories.specs.History.{Asking, AskedAt, History, clocked}
use Rattle.histories.specs.KeptResponses.{telling_body, unwrapped_body}
use Rattle.histories.specs.Revocation.{IsMade, WasToken}
use Rattle.histories.specs.Paths.{path_of}

-- a token of the policy `root`
abbrev pub HasRoot : Token → Type 0
HasRoot x = has x.policies (codes "root") ≡ true

-- A policy of the token names `sudo` for POST and PUT of the path, and none denies it.
abbrev pub HasSudo : Broker → Token → Text → Type 0
HasSudo b x path = IsGranted b.policies x.policies Verb.Write path Sudo

-- The token y has no policy that x has not, has no period, and is the child of the caller c, unless it was asked for at
-- the path that makes tokens without parent.
pub record IsWithin (c : Text) (making : Making) (x y : Token) : Type 0 where
  pub policies : (p : Text) → has y.policies p ≡ true → has x.policies p ≡ true
  pub period : y.period ≡ 0
  pub parent : (y.parent ≡ Some c) ⊎ (making ≡ WithoutParent)

-- The policies of the new token y, of a caller with the token x. `root` stands alone. Else they are those that were
-- asked for, or if none were, the caller's. `default` comes to those that were asked for, if the caller has it or is
-- privileged, but it is left out where the body asks for that.
pub record HasPolicies (privileged : Type 0) (asked : TokenCreation) (x y : Token) : Type 0 where
  pub root_alone : HasRoot y → y.policies ≡ codes "root" ∷ []
  pub asked_for : (p : Text) → has asked.policies p ≡ true
      → (p ≢ codes "default") ⊎ (asked.no_default_policy ≡ false) → HasRoot y ⊎ (has y.policies p ≡ true)
  pub own : (p : Text) → asked.policies ≡ [] → has x.policies p ≡ true
      → (p ≢ codes "default") ⊎ (asked.no_default_policy ≡ false) → HasRoot y ⊎ (has y.policies p ≡ true)
  pub default : asked.policies ≢ [] → asked.no_default_policy ≡ false
      → privileged ⊎ (has x.policies (codes "default") ≡ true) → HasRoot y ⊎ (has y.policies (codes "default") ≡ true)
  pub no_default : asked.no_default_policy ≡ true → HasRoot y ⊎ (has y.policies (codes "default") ≡ false)
  pub no_other : (p : Text) → has y.policies p ≡ true
      → (has asked.policies p ≡ true)
      ⊎ (((asked.policies ≡ []) × (has x.policies p ≡ true))
      ⊎ ((p ≡ codes "default") × (asked.policies ≢ []) × (privileged ⊎ (has x.policies (codes "default") ≡ true))))

-- The length of time that the new token y is made for, and its end. It is the period that was asked for, or else the
-- time, or else the longest: at most 32 days, and its own longest time, if it has one.
pub record IsMadeFor (now : ℕ) (asked : TokenCreation) (y : Token) : Type 0 where
  pub time : ℕ
  pub by_period : asked.period ≢ 0 → time ≡ asked.period
  pub by_ttl : asked.period ≡ 0 → asked.ttl ≢ 0 → time ≡ asked.ttl
  pub by_none : asked.period ≡ 0 → asked.ttl ≡ 0 → time ≡ 2764800
  pub own : asked.explicit_max_ttl ≢ 0 → y.ttl ≡ min time (min 2764800 asked.explicit_max_ttl)
  pub longest : asked.explicit_max_ttl ≡ 0 → y.ttl ≡ min time 2764800
  pub ends : y.ends ≡ Some (now + y.ttl)

-- a body that asks for no end
pub record AsksNoEnd (asked : TokenCreation) : Type 0 where
  pub ttl : asked.ttl ≡ 0
  pub explicit_max_ttl : asked.explicit_max_ttl ≡ 0
  pub period : asked.period ≡ 0

-- The request made the token y, and its caller might: what it asked for, and what its own token is at the request's
-- clock, decide.
pub record MightMake (a : Asking) (q : Text) (y : Token) : Type 0 where
  pub made : IsMade a q y
  pub own : Token
  pub there : get (clocked a).tokens made.caller ≡ Some own
  -- a token with a limit of uses makes none
  pub unlimited : own.uses_left ≡ None
  -- a token of `root`, or with `sudo` on the path, makes any; another gives no more than it has
  pub allowed : HasRoot own
      ⊎ (HasSudo (clocked a) own (path_of made.making) ⊎ IsWithin made.caller made.making own y)
  -- that path is the one that was asked, by POST or PUT, if that is of bytes
  pub path : are_bytes a.ask.path ≡ true → (a.ask.verb ≡ Verb.Write) × (a.ask.path ≡ path_of made.making)
  -- `root` comes from `root` alone
  pub root : HasRoot y → HasRoot own
  -- and a token without end from one without end
  pub endless : y.ends ≡ None → own.ends ≡ None
  -- it is issued now, with the uses, of which 0 are no limit, the longest time and the period that were asked for
  pub issued : y.issued ≡ (clocked a).clock
  pub uses : made.asked.num_uses ≢ 0 → y.uses_left ≡ Some made.asked.num_uses
  pub no_limit : made.asked.num_uses ≡ 0 → y.uses_left ≡ None
  pub longest : y.explicit_max_ttl ≡ made.asked.explicit_max_ttl
  pub period : y.period ≡ min made.asked.period 2764800
  -- for as long as was asked for; a token of `root` has no end, if none is asked for
  pub lasts : ((y.ends ≡ None) × (y.ttl ≡ 0) × HasRoot y × AsksNoEnd made.asked)
      ⊎ IsMadeFor (clocked a).clock made.asked y
  pub no_end : HasRoot y → AsksNoEnd made.asked → y.ends ≡ None
  -- and with the policies and the metadata that were asked for
  pub policies : HasPolicies (HasRoot own ⊎ HasSudo (clocked a) own (path_of made.making)) made.asked own y
  pub meta : y.meta ≡ from_entries made.asked.meta

-- What is told of the new token y at q, as it is at this clock.
abbrev pub told_of : ℕ → Text → Token → AuthObject
told_of now q y = record {
  accessor = y.accessor;
  client_token = q;
  lease_duration = option_map_or (λ end. end - now) y.ends 0;
  metadata = entries y.meta;
  num_uses = unwrap_or y.uses_left 0;
  orphan = is_none y.parent;
  policies = y.policies;
  renewable = is_some y.ends;
}

-- a reply with this object of a token, and nothing else
abbrev pub with_token : Text → Text → Reply
with_token request object = record {
  auth = Some object;
  payload = None;
  lease_duration = 0;
  lease_id = [];
  renewable = false;
  request_id = request;
  wrap_info = None;
}

-- The request made a token, which is there; and the reply, without wrapping, tells of it. One that is wrapped shows its
-- accessor.
pub record GivesToken (a : Asking) : Type 0 where
  pub text : Text
  pub made : Token
  pub there : get a.outcome.next.tokens text ≡ Some made
  pub might : MightMake a text made
  pub told : unwrapped_body a
      ≡ reply_text (with_token (names_of a.words).request (auth_object (told_of (clocked a).clock text made)))
  pub wrapped : 0 < a.ask.wrap_ttl → a.outcome.response ≡ ok (telling_body a (unwrapped_body a) (Some made.accessor))

pub record MadeAsAllowed (history : History) : Type 0 where
  -- Each token after an event was there at its clock, or the event's caller might make it.
  pub each : (i : ℕ) (a : Asking) (q : Text) (y : Token) → AskedAt history i a
      → get a.outcome.next.tokens q ≡ Some y → WasToken a q y ⊎ MightMake a q y
  -- And each 200 to a creation made one.
  pub given : (i : ℕ) (a : Asking) (making : Making) (asked : TokenCreation) → AskedAt history i a
      → command_of (clocked a).mounts a.ask ≡ Ok (on_token (TokenCommand.Create making asked))
      → a.outcome.response.status ≡ Status.Success → GivesToken a
