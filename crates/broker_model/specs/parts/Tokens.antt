-- The part of tokens: what the commands of the routes under `auth/token/` do to the maps (Vault's documentation, "Token
-- auth method (API)").
use Rattle.std.specs.Prelude.{◌+◌, ◌==◌, if◌then◌else◌, ℕ, min, List, [], Bool, Some, None, is_some, Result, Ok}
use Rattle.records.specs.Words.{option_map_or, Text, get, longest_ttl, Names, Token, token_text, Broker, nothing, reply}
use Rattle.records.specs.Words.{plainly, Done, ◌>>=◌, some_or, unless, drop_waiting, Refusal, TokenEntry, token_entry}
use Rattle.broker_types.specs.Broker as broker
use Rattle.broker_types.specs.declared.refusal.Refusal.TheVariants as refusal
use Rattle.broker_types.specs.declared.refusal.Reason.TheVariants as reason
use Rattle.broker_types.specs.declared.refusal.Denial.TheVariants as denial
use Rattle.token_tree.specs.Tokens as tree
use Rattle.wrapping.specs.Wrapping as wrapping
use Rattle.api_json.specs.Words.{keys_object, plain_reply}
use Rattle.api_json.specs.declared.token_bodies.TokenCreation.{TokenCreation}
use Rattle.broker_model.specs.Traits.{token_names}
use Rattle.broker_model.specs.declared.commands.TokenCommand.{TokenCommand}
use Rattle.broker_model.specs.declared.commands.TokenCommand.TheVariants as command
use Rattle.broker_model.specs.declared.making.Making.{Making}
use Rattle.broker_model.specs.parts.TokenCreation.{making_path, is_privileged, new_policies, may_make, new_parent}
use Rattle.broker_model.specs.parts.TokenCreation.{new_token, or_longest}
use Rattle.broker_model.specs.parts.TokenReplies.{auth_reply, token_reply}

-- ---- tokens that are named

-- the token t; one that is not there is 403 `bad token`
abbrev pub known : Broker → Text → Result Token Refusal
known b t = some_or (refusal.Forbidden denial.BadToken) (get b.tokens t)

-- the token of an accessor; an accessor of none is 400 `invalid accessor`
abbrev pub named : Broker → Text → Result Text Refusal
named b accessor = some_or (refusal.BadRequest reason.InvalidAccessor) (tree.find_accessor b accessor)

-- ---- creation

-- the token x is made
abbrev pub made : Broker → Names → Token → Done
made b names x =
    let t = token_text names.token in
    record {
      answered = reply (auth_reply names.request b.clock t (token_entry x)) (Some names.accessor);
      next = tree.with_token b t x;
      taken = token_names names;
      handed = None;
    }

-- the caller c, whose token is x, makes a token with these policies, if it may
abbrev pub create_with : Broker → Text → Token → Names → Making → Bool → List Text → TokenCreation → Result Done Refusal
create_with b c x names making privileged policies asked = do
  allowed ← may_make privileged making x policies asked
  Ok (made b names (new_token b.clock (new_parent c making asked) names.accessor policies asked))

-- the caller c makes a token by the route, if it may
abbrev pub create : Broker → Text → Names → Making → TokenCreation → Result Done Refusal
create b c names making asked = do
  x ← known b c
  let privileged = is_privileged b (making_path making) x in
      create_with b c x names making privileged (new_policies privileged x asked) asked

-- ---- look-up

-- the token t, shown under this id
abbrev pub look_up : Broker → Names → Text → Text → Result Done Refusal
look_up b names t id = do
  x ← known b t
  Ok (plainly (reply (token_reply names.request b.clock id (token_entry x)) None) b)

-- the token of the accessor, without its id
abbrev pub look_up_accessor : Broker → Names → Text → Result Done Refusal
look_up_accessor b names accessor = do
  t ← named b accessor
  look_up b names t []

-- the accessors of all tokens, in the order of their bytes
abbrev pub all_accessors : Broker → Names → Done
all_accessors b names =
    plainly (reply (plain_reply names.request (keys_object (tree.accessors_of b))) None) b

-- ---- renewal

-- The new end of the token x that is not periodic: after the increment, or after the time that it was made for if that
-- is 0; and no later than 32 days, or its own longest time, after its issue.
abbrev pub prolonged_end : ℕ → TokenEntry → ℕ → ℕ
prolonged_end now x increment =
    min (now + (if increment == 0 then x.ttl else increment))
    (x.issued + min longest_ttl (or_longest x.explicit_max_ttl))

-- the new end of the periodic token x: after its period, and no later than its own longest time, if it has one, after
-- its issue
abbrev pub periodic_end : ℕ → TokenEntry → ℕ
periodic_end now x =
    if x.explicit_max_ttl == 0 then now + x.period else min (now + x.period) (x.issued + x.explicit_max_ttl)

-- the new end of the token x; of a periodic one, whatever the increment is
abbrev pub new_end : ℕ → TokenEntry → ℕ → ℕ
new_end now x increment = if x.period == 0 then prolonged_end now x increment else periodic_end now x

-- the token t is renewed; one without an end is 400 `lease is not renewable`
abbrev pub renew_token : Broker → Names → Text → ℕ → Result Done Refusal
renew_token b names t increment = do
  x ← known b t
  ending ← unless (is_some x.ends) (refusal.BadRequest reason.TokenNotRenewable)
  let next = new_end b.clock (token_entry x) increment in
      Ok (plainly (reply (auth_reply names.request b.clock t (token_entry (tree.with_end next x))) None)
      (tree.renew b t next))

-- ---- revocation

-- The token t ends, with all under it, and the wrapping token t with the response that waits under it (Vault's
-- documentation, "Response wrapping"). It is one of the two or neither, so an unknown text changes nothing.
abbrev pub revoke_token : Broker → Text → Done
revoke_token b t = plainly nothing (drop_waiting (broker.revoke b t) t)

-- the same of a token alone: its children have no parent then
abbrev pub revoke_alone : Broker → Text → Done
revoke_alone b t = plainly nothing (drop_waiting (broker.revoke_orphan b t) t)

-- the token or the wrapping token of an accessor; an accessor of neither is 400 `invalid accessor`
abbrev pub holder : Broker → Text → Result Text Refusal
holder b accessor =
    some_or (refusal.BadRequest reason.InvalidAccessor)
    (option_map_or Some (tree.find_accessor b accessor) (wrapping.find_accessor b accessor))

-- what has the accessor is revoked
abbrev pub revoke_named : Broker → Text → Result Done Refusal
revoke_named b accessor = do
  t ← holder b accessor
  Ok (revoke_token b t)

-- ---- the part

-- what a command of the caller c does
abbrev pub act_on_tokens : Broker → Text → Names → TokenCommand → Result Done Refusal
act_on_tokens b c names (command.Create making asked) = create b c names making asked
act_on_tokens b c names (command.LookUp t) = look_up b names t t
act_on_tokens b c names (command.LookUpAccessor accessor) = look_up_accessor b names accessor
act_on_tokens b c names command.LookUpSelf = look_up b names c c
act_on_tokens b c names (command.Renew asked) = renew_token b names asked.token asked.increment
act_on_tokens b c names (command.RenewSelf increment) = renew_token b names c increment
act_on_tokens b c names (command.Revoke t) = Ok (revoke_token b t)
act_on_tokens b c names (command.RevokeOrphan t) = Ok (revoke_alone b t)
act_on_tokens b c names (command.RevokeAccessor accessor) = revoke_named b accessor
act_on_tokens b c names command.RevokeSelf = Ok (revoke_token b c)
act_on_tokens b c names command.ListAccessors = Ok (all_accessors b names)
