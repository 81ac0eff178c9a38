-- A token that is made: who may make it, its policies and its ttl (Vault's documentation, "Token auth method (API)",
-- create token; "Tokens", token hierarchies and orphan tokens, root tokens, use limits, explicit max TTLs, periodic
-- tokens; the order of the refusals, and what `sudo` allows, are this project's).
use Rattle.std.specs.Prelude.{◌+◌, ◌==◌, ◌∷◌, ◌&&◌, ◌||◌, if◌then◌else◌, ℕ, min, List, [], filter, Bool, true, false, ⊤}
use Rattle.records.specs.Words.{not, codes, Option, Some, None, is_none, Result, from_entries, list_all, Text, same}
use Rattle.records.specs.Words.{empty, keys, longest_ttl, is_name, Token, Broker, ◌>>=◌, unless, Refusal, has, set_of}
use Rattle.broker_types.specs.declared.ask.Verb.TheVariants as verb
use Rattle.broker_types.specs.declared.refusal.Refusal.TheVariants as refusal
use Rattle.broker_types.specs.declared.refusal.Reason.TheVariants as reason
use Rattle.policies.specs.Words.{grants}
use Rattle.policies.specs.declared.capability.Capability.TheVariants.{Sudo}
use Rattle.api_json.specs.declared.token_bodies.TokenCreation.{TokenCreation}
use Rattle.broker_model.specs.declared.making.Making.{Making}
use Rattle.broker_model.specs.declared.making.Making.TheVariants.{OfCaller, WithoutParent}

-- ---- who makes it

-- whether the route makes tokens without parent alone
abbrev pub makes_orphans : Making → Bool
makes_orphans OfCaller = false
makes_orphans WithoutParent = true

-- the path of the route
abbrev pub making_path : Making → Text
making_path OfCaller = codes "auth/token/create"
making_path WithoutParent = codes "auth/token/create-orphan"

-- whether policies are those of a root token
abbrev pub have_root : List Text → Bool
have_root policies = has policies (codes "root")

-- whether the token x has `sudo` on the path of the route, as a root token has everywhere
abbrev pub is_privileged : Broker → Text → Token → Bool
is_privileged b path x = grants b.policies x.policies verb.Write path Sudo

-- ---- policies

-- `default`
abbrev pub default_name : Text
default_name = codes "default"

-- the policies asked for, with `default` if it is added to them; if none are asked for, the caller's own
abbrev pub policies_given : Bool → List Text → List Text → List Text
policies_given adds_default own [] = own
policies_given adds_default own (p ∷ ps) = if adds_default then default_name ∷ p ∷ ps else p ∷ ps

-- the policies but `default`
abbrev pub without_default : List Text → List Text
without_default policies = filter (λ p. not (same p default_name)) policies

-- The policies of the new token, ascending by bytes, each once. With `root` among them it is `root` alone. A privileged
-- caller, or one that has `default`, adds `default` to those that it gives; the body may ask for none of it.
abbrev pub new_policies : Bool → Token → TokenCreation → List Text
new_policies privileged x asked =
    let given = policies_given (privileged || has x.policies default_name) x.policies asked.policies in
    if have_root given then codes "root" ∷ []
    else keys (set_of (if asked.no_default_policy then without_default given else given))

-- ---- times

-- a length of time; 0 is the longest
abbrev pub or_longest : ℕ → ℕ
or_longest n = if n == 0 then longest_ttl else n

-- the period that the body asks for, of 32 days at most; 0 for a token that is not periodic
abbrev pub asked_period : TokenCreation → ℕ
asked_period asked = min asked.period longest_ttl

-- the time that the body asks for: its period, if it asks for one, and else its ttl; 0 is the longest
abbrev pub asked_time : TokenCreation → ℕ
asked_time asked = or_longest (if asked.period == 0 then asked.ttl else asked.period)

-- the seconds that the token is made for: the time that the body asks for, and no more than 32 days or than the longest
-- that it allows itself
abbrev pub asked_ttl : TokenCreation → ℕ
asked_ttl asked = min (asked_time asked) (min longest_ttl (or_longest asked.explicit_max_ttl))

-- whether a new token with these policies has no end: a root token, if the body asks for none
abbrev pub has_no_end : List Text → TokenCreation → Bool
has_no_end policies asked =
    have_root policies && (asked.ttl == 0 && (asked.explicit_max_ttl == 0 && asked.period == 0))

-- ---- refusals

-- The first reason that holds against the caller x is 400: its uses are limited; a name is no name of a policy; `root`
-- is asked for, which it has not; it is not privileged, and asks for a policy that it has not; or it is not, and asks
-- for a token without parent on the route that makes children too; it has an end, and the new token, which would have
-- these policies, would have none; or it is not privileged, and asks for a periodic token.
abbrev pub may_make : Bool → Making → Token → List Text → TokenCreation → Result ⊤ Refusal
may_make privileged making x policies asked = do
  unlimited ← unless (is_none x.uses_left) (refusal.BadRequest reason.RestrictedToken)
  named ← unless (list_all is_name asked.policies) (refusal.BadRequest reason.InvalidName)
  root ← unless (have_root x.policies || not (have_root asked.policies)) (refusal.BadRequest reason.RootByRootAlone)
  had ← unless (privileged || list_all (has x.policies) asked.policies) (refusal.BadRequest reason.PoliciesBeyondParent)
  parted ← unless (privileged || (makes_orphans making || not asked.no_parent))
      (refusal.BadRequest reason.OrphanNeedsSudo)
  ending ← unless (is_none x.ends || not (has_no_end policies asked)) (refusal.BadRequest reason.ExpiringRoot)
  unless (privileged || asked.period == 0) (refusal.BadRequest reason.PeriodNeedsSudo)

-- ---- the new token

-- a number of uses; 0 is no limit
abbrev pub use_limit : ℕ → Option ℕ
use_limit n = if n == 0 then None else Some n

-- the parent of a new token of the caller c
abbrev pub new_parent : Text → Making → TokenCreation → Option Text
new_parent c making asked = if makes_orphans making || asked.no_parent then None else Some c

-- the new token with these policies, made now
abbrev pub new_token : ℕ → Option Text → Text → List Text → TokenCreation → Token
new_token now parent accessor policies asked =
    let endless = has_no_end policies asked in
    record {
      parent = parent;
      accessor = accessor;
      policies = policies;
      issued = now;
      ends = if endless then None else Some (now + asked_ttl asked);
      ttl = if endless then 0 else asked_ttl asked;
      explicit_max_ttl = asked.explicit_max_ttl;
      period = asked_period asked;
      uses_left = use_limit asked.num_uses;
      meta = from_entries asked.meta;
      cubbyhole = empty;
      leases = empty;
    }
