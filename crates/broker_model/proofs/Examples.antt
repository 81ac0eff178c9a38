-- Wrapping, computed on a small broker; and which paths ask for `sudo`.
use Rattle.std.proofs.Common.{◌≡◌, ◌∷◌, ◌++◌, [], None, Some, true, false, codes, refl}
use Rattle.broker_model.specs.Words.{digits, same, get, get-put, Broker, Waiting, first_broker, Names, nothing, reply}
use Rattle.broker_model.specs.Words.{plainly, civil, day_from_year, day_from_month, Ask, Reply, asks_sudo, name_text}
use Rattle.broker_model.specs.Words.{wrap_object, reply_text, act, Command, wrap_info, wraps, wrap_200, Wrapped}
use Rattle.broker_model.specs.Words.{unwrapped, permits, request_of, traits, unwrapped_ask}
use Rattle.json.specs.Print.{escape_byte}
use Rattle.api_json.specs.Printing as printing

abbrev broker : Broker
broker = first_broker 100 1 2

-- a response that waits from 100 for 5 seconds
abbrev response : Waiting
response = record {
  accessor = codes "a";
  created = 100;
  ttl = 5;
  path = codes "p";
  origin = codes "o";
  reply = codes "{}";
}

told : wrap_info (codes "hvs.t") response (Some (codes "m"))
    ≡ codes "{\"accessor\":\"a\",\"creation_path\":\"p\",\"creation_time\":\"1970-01-01T00:01:40Z\","
    ++ codes "\"token\":\"hvs.t\",\"ttl\":5,\"wrapped_accessor\":\"m\"}"
unfolding wrap_object name_text digits escape_byte civil day_from_year day_from_month printing.with_member
    printing.with_item printing.quoted
    printing.whole_number printing.time
told = refl

-- a request with a wrap TTL of 5 seconds is wrapped if its command may be, and one without is not
wraps_with_ttl : (a : Ask) (command : Command)
    → wraps permits traits act (record (request_of a) { wrap_ttl = 5 }) command ≡ (traits command).may_wrap
wraps_with_ttl a command = refl

not_without : (a : Ask) (command : Command) → wraps permits traits act (request_of (unwrapped_ask a)) command ≡ false
not_without a command = refl

-- the reply r to a request for the path `p`, wrapped under `w` with the accessor `x`
wrapped_in : Names → Reply → Wrapped
wrapped_in names r = wrap_200 broker (codes "p") 5 names (plainly (reply r None) broker) (reply r None)

waits_under_it : (names : Names) (r : Reply) → names.wrapping_token ≡ codes "w" → names.wrapping_accessor ≡ codes "x"
    → get (wrapped_in names r).done.next.waiting (codes "hvs.w")
    ≡ Some (record {
      accessor = codes "x";
      created = 100;
      ttl = 5;
      path = codes "p";
      origin = codes "w";
      reply = reply_text r;
    })
unfolding wrapped_in same
waits_under_it names r w x = rw w (rw x (get-put broker.waiting (codes "hvs.w") _ (codes "hvs.w")))

takes_both : (names : Names) (r : Reply) → (wrapped_in names r).done.taken
    ≡ names.wrapping_token ∷ names.wrapping_accessor ∷ []
unfolding wrapped_in
takes_both names r = refl

-- a 204 is not wrapped
nothing_to_wrap : (names : Names) → wrap_200 broker (codes "p") 5 names (plainly nothing broker) nothing
    ≡ unwrapped (plainly nothing broker)
nothing_to_wrap names = refl

-- ---- paths that ask for `sudo`, by their form

accessors : asks_sudo (codes "auth/token/accessors") ≡ true
unfolding asks_sudo same
accessors = refl

orphan_revoked : asks_sudo (codes "auth/token/revoke-orphan") ≡ true
unfolding asks_sudo same
orphan_revoked = refl

-- at any prefix
leases_revoked : asks_sudo (codes "sys/leases/revoke-prefix/secret/data") ≡ true
unfolding asks_sudo same
leases_revoked = refl

-- and not at the path of one lease, nor at what looks alike in another mount
lease_revoked : asks_sudo (codes "sys/leases/revoke") ≡ false
unfolding asks_sudo same
lease_revoked = refl

another_mount : asks_sudo (codes "secret/token/accessors") ≡ false
unfolding asks_sudo same
another_mount = refl
