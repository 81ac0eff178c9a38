-- The part of tokens, computed.
use Rattle.std.proofs.Common.{◌≡◌, ◌++◌, ◌∷◌, ℕ, List, [], Bool, true, false, Option, Some, None, Ok, Err, codes, map}
use Rattle.broker_model.specs.Words.{⊤, nat_list_cmp_total, digits, entries-insert, refl, ◌∙◌, ap, Text, text_cmp, same}
use Rattle.broker_model.specs.Words.{get, empty, entries, keys, entries-empty, get-put_self, ParentsExist, root_token}
use Rattle.broker_model.specs.Words.{first_broker, id, token_text, Token, Broker, Names, drop_waiting, nothing, plainly}
use Rattle.broker_model.specs.Words.{civil, day_from_year, day_from_month, revoke_unknown, orphan_unknown, Reason}
use Rattle.broker_model.specs.Words.{set_of, token_entry, optional, name_text, reply_text, TokenCreation, allows}
use Rattle.broker_model.specs.Words.{rules_of, Making, new_token, new_policies, may_make, seconds_left, looked_up}
use Rattle.broker_model.specs.Words.{auth_reply, token_command, drop_unknown, act_on_tokens, made, look_up, new_end}
use Rattle.broker_model.specs.Words.{revoke_token, revoke_alone}
use Rattle.std.specs.FinMap as fin
use Rattle.json.specs.Print.{escape_byte}
use Rattle.broker_types.specs.declared.refusal.Refusal.TheVariants as refusal
use Rattle.broker_types.specs.declared.refusal.Reason.TheVariants as reason
use Rattle.broker_types.specs.declared.refusal.Denial.TheVariants as denial
use Rattle.broker_types.specs.declared.refusal.Field.TheVariants as field
use Rattle.api_json.specs.Readers as reader
use Rattle.api_json.specs.Objects as object
use Rattle.api_json.specs.Printing as printing
use Rattle.broker_model.specs.declared.making.Making.TheVariants.{OfCaller, WithoutParent}
use Rattle.mounts.specs.declared.operation.TokenOperation.TheVariants as operation
use Rattle.broker_model.specs.declared.commands.TokenCommand.TheVariants as command

-- ---- times

-- a body that asks for policies, times and a use limit
asked : List Text → ℕ → ℕ → Bool → Bool → TokenCreation
asked policies ttl explicit_max_ttl no_parent no_default_policy =
    record {
      policies = policies;
      meta = [];
      ttl = ttl;
      explicit_max_ttl = explicit_max_ttl;
      num_uses = 0;
      no_parent = no_parent;
      no_default_policy = no_default_policy;
      period = 0;
    }

-- a body that asks for a periodic token
periodic : ℕ → ℕ → ℕ → TokenCreation
periodic period ttl explicit_max_ttl = record (asked [] ttl explicit_max_ttl false false) { period = period }

abbrev accessor : Text
accessor = codes "00000000-0000-0000-0000-000000000012"

abbrev child_text : Text
child_text = codes "hvs.00000000-0000-0000-0000-000000000011"

-- root makes a token at 1000: ttl 100, at most 150
child : Token
unfolding asked
child = new_token 1000 (Some (codes "hvs.r")) accessor (codes "root" ∷ []) (asked [] 100 150 false false)

ends : child.ends ≡ Some 1100
unfolding child asked same
ends = refl

-- at 1040 it is renewed for its creation ttl, at 1060 for 500 seconds
renewed : new_end 1040 (token_entry child) 0 ≡ 1140
unfolding child asked same
renewed = refl

renewed_at_most : new_end 1060 (token_entry child) 500 ≡ 1150
unfolding child asked same
renewed_at_most = refl

left : seconds_left 1060 (Some 1150) ≡ 90
left = refl

-- root makes a token at 1000 with a period of 60, and renews it at 1050 by 5
of_period : ℕ → ℕ → Token
unfolding periodic asked
of_period period explicit_max_ttl =
    new_token 1000 (Some (codes "hvs.r")) accessor (codes "root" ∷ []) (periodic period 10 explicit_max_ttl)

first_period : (of_period 60 0).ends ≡ Some 1060
unfolding of_period periodic asked same
first_period = refl

next_period : new_end 1050 (token_entry (of_period 60 0)) 5 ≡ 1110
unfolding of_period periodic asked same
next_period = refl

last_period : new_end 1050 (token_entry (of_period 60 100)) 5 ≡ 1100
unfolding of_period periodic asked same
last_period = refl

-- a period of 800 hours is cut to 32 days, and goes on beyond 32 days after the issue
longest_period : (of_period 2880000 0).period ≡ 2764800
unfolding of_period periodic asked same
longest_period = refl

beyond_the_longest : new_end 2001000 (token_entry (of_period 2880000 0)) 0 ≡ 4765800
unfolding of_period periodic asked same
beyond_the_longest = refl

-- a root token has no end if the body names no time, and a token of no times lasts for 32 days
endless : (new_token 1000 None accessor (codes "root" ∷ []) (asked [] 0 0 false false)).ends ≡ None
unfolding asked same
endless = refl

longest : (new_token 1000 None accessor (codes "n" ∷ []) (asked [] 0 0 false false)).ends ≡ Some 2765800
unfolding asked same
longest = refl

-- ---- refusals, in their order

abbrev n : Text
n = codes "n"

-- a caller with policies, a limit of its uses, and an end
caller : List Text → Option ℕ → Option ℕ → Token
caller policies uses ends = record (root_token 1000 (codes "c")) { policies = policies; uses_left = uses; ends = ends }

abbrev default_and_n : List Text
default_and_n = codes "default" ∷ n ∷ []

abbrev refused : Bool → Making → Token → List Text → TokenCreation → Reason → Type 0
refused privileged making x policies a why = may_make privileged making x policies a ≡ Err (refusal.BadRequest why)

all_at_once : TokenCreation
all_at_once = asked (codes "a b" ∷ codes "root" ∷ codes "x" ∷ []) 0 0 true false

limited : refused false OfCaller (caller default_and_n (Some 8) (Some 2765800)) [] all_at_once reason.RestrictedToken
unfolding caller same
limited = refl

no_name : refused false OfCaller (caller default_and_n None (Some 2765800)) [] all_at_once reason.InvalidName
unfolding all_at_once asked caller same
no_name = refl

no_root : refused false OfCaller (caller default_and_n None (Some 2765800)) []
    (asked (codes "root" ∷ codes "x" ∷ []) 0 0 true false) reason.RootByRootAlone
unfolding asked caller same
no_root = refl

beyond : refused false OfCaller (caller default_and_n None (Some 2765800)) []
    (asked (codes "x" ∷ []) 0 0 true false) reason.PoliciesBeyondParent
unfolding asked caller same
beyond = refl

no_orphan : refused false OfCaller (caller default_and_n None (Some 2765800)) []
    (asked (n ∷ []) 0 0 true false) reason.OrphanNeedsSudo
unfolding asked caller same
no_orphan = refl

by_its_own_route : may_make false WithoutParent (caller default_and_n None (Some 2765800)) default_and_n
    (asked (n ∷ []) 0 0 true false) ≡ Ok tt
unfolding asked caller same
by_its_own_route = refl

expiring : refused true OfCaller (caller (codes "root" ∷ []) None (Some 1100)) (codes "root" ∷ [])
    (asked [] 0 0 false false) reason.ExpiringRoot
unfolding asked caller same
expiring = refl

no_period : refused false OfCaller (caller default_and_n None (Some 2765800)) default_and_n
    (periodic 60 0 0) reason.PeriodNeedsSudo
unfolding periodic asked caller same
no_period = refl

-- ---- policies

-- names put in their order, one after another
listed : List Text → List (Text × ⊤)
listed [] = []
listed (t ∷ ts) = fin.put text_cmp t tt (listed ts)

set_listed : (ts : List Text) → entries (set_of ts) ≡ listed ts
unfolding listed
set_listed [] = entries-empty
set_listed (t ∷ ts) = entries-insert nat_list_cmp_total (set_of ts) t tt ∙ ap (fin.put text_cmp t tt) (set_listed ts)

names_of : (ts : List Text) → keys (set_of ts) ≡ map (λ e. e.0) (listed ts)
names_of ts = ap (map (λ e. e.0)) (set_listed ts)

-- root and callers with `default` add `default`
added : new_policies true (root_token 1000 (codes "r")) (asked (n ∷ []) 0 0 false false) ≡ default_and_n
unfolding asked same listed
added = names_of (codes "default" ∷ n ∷ [])

once : new_policies true (root_token 1000 (codes "r")) (asked (n ∷ codes "default" ∷ []) 0 0 false false)
    ≡ default_and_n
unfolding asked same listed
once = names_of (codes "default" ∷ n ∷ codes "default" ∷ [])

-- other callers do not, and no list is that of the caller
not_added : new_policies false (caller (n ∷ []) None None) (asked (n ∷ []) 0 0 false false) ≡ n ∷ []
unfolding asked caller same listed
not_added = names_of (n ∷ [])

-- without `default`
less_default : new_policies false (caller default_and_n None None) (asked [] 0 0 false true) ≡ n ∷ []
unfolding asked caller same listed
less_default = names_of (n ∷ [])

none_left : new_policies false (caller default_and_n None None) (asked (codes "default" ∷ []) 0 0 false true) ≡ []
unfolding asked caller same listed
none_left = names_of []

-- `root` is alone
root_alone : new_policies true (root_token 1000 (codes "r")) (asked (n ∷ codes "root" ∷ []) 0 0 false true)
    ≡ codes "root" ∷ []
unfolding asked same
root_alone = refl

-- ---- texts

-- the reply to the creation of `child`
auth_text : reply_text (auth_reply (codes "00000000-0000-0000-0000-000000000010") 1000 child_text
    (token_entry (record child { meta = empty })))
    ≡ codes "{\"auth\":{\"accessor\":\"00000000-0000-0000-0000-000000000012\","
    ++ codes "\"client_token\":\"hvs.00000000-0000-0000-0000-000000000011\",\"entity_id\":\"\",\"lease_duration\":100,"
    ++ codes "\"metadata\":null,\"num_uses\":0,\"orphan\":false,\"policies\":[\"root\"],\"renewable\":true,"
    ++ codes "\"token_policies\":[\"root\"],\"token_type\":\"service\"},\"data\":null,\"lease_duration\":0,"
    ++ codes "\"lease_id\":\"\",\"renewable\":false,\"request_id\":\"00000000-0000-0000-0000-000000000010\","
    ++ codes "\"warnings\":null,\"wrap_info\":null}\n"
unfolding child asked same reply_text object.auth_object name_text digits escape_byte printing.with_member
    printing.with_item printing.quoted
    printing.null_text printing.whole_number printing.bool_text printing.or_null printing.texts printing.pairs
auth_text = rw entries-empty refl

-- its look-up, when it has been renewed at 1040
token_text_at_1040 : object.token_object
    (looked_up 1040 child_text (token_entry (record child { ends = Some 1140; meta = empty })))
    ≡ codes "{\"accessor\":\"00000000-0000-0000-0000-000000000012\",\"creation_time\":1000,\"creation_ttl\":100,"
    ++ codes "\"expire_time\":\"1970-01-01T00:19:00Z\",\"explicit_max_ttl\":150,"
    ++ codes "\"id\":\"hvs.00000000-0000-0000-0000-000000000011\",\"issue_time\":\"1970-01-01T00:16:40Z\","
    ++ codes "\"meta\":null,\"num_uses\":0,\"orphan\":false,\"policies\":[\"root\"],\"renewable\":true,\"ttl\":100,"
    ++ codes "\"type\":\"service\"}"
unfolding child asked same object.token_object name_text digits escape_byte printing.with_member printing.with_item
    printing.quoted
    printing.null_text printing.whole_number printing.bool_text printing.texts printing.pairs printing.time
    printing.time_or
    civil day_from_year day_from_month
token_text_at_1040 = rw entries-empty refl

-- ---- bodies

no_body : token_command operation.RevokeSelf [] ≡ Ok command.RevokeSelf
no_body = refl

no_token : token_command operation.Revoke [] ≡ Err (refusal.BadRequest (reason.MissingField field.Token))
unfolding reader.token optional
no_token = refl

nothing_asked : token_command operation.Create [] ≡ Ok (command.Create OfCaller (asked [] 0 0 false false))
unfolding reader.token_creation optional asked
nothing_asked = refl

-- ---- the root token of the start

abbrev first : Broker
first = first_broker 1000 1 2

abbrev root_text : Text
root_text = token_text (id 1)

-- it has no end
not_renewable : (names : Names) → act_on_tokens first root_text names (command.RenewSelf 0)
    ≡ Err (refusal.BadRequest reason.TokenNotRenewable)
not_renewable names = rw (get-put_self empty root_text (root_token 1000 (id 2))) refl

-- it makes a token without policies of its own
makes : (names : Names) → act_on_tokens first root_text names (command.Create OfCaller (asked [] 100 150 false false))
    ≡ Ok (made first names
    (new_token 1000 (Some root_text) names.accessor (codes "root" ∷ []) (asked [] 100 150 false false)))
unfolding asked same allows rules_of
makes names = rw (get-put_self empty root_text (root_token 1000 (id 2))) refl

-- ---- what is unknown

unknown : (b : Broker) (names : Names) (t id : Text) → get b.tokens t ≡ None
    → look_up b names t id ≡ Err (refusal.Forbidden denial.BadToken)
unknown b names t id none = rw none refl

-- a text that is neither a token nor a wrapping token, as the empty one, ends nothing
ends_nothing : (b : Broker) (t : Text) → get b.tokens t ≡ None → get b.waiting t ≡ None
    → revoke_token b t ≡ plainly nothing b
ends_nothing b t none bare =
    ap (λ ts. plainly nothing (drop_waiting (record b { tokens = ts }) t)) (revoke_unknown b.tokens t none)
    ∙ ap (plainly nothing) (drop_unknown b t bare)

ends_none_alone : (b : Broker) (t : Text) → ParentsExist b.tokens → get b.tokens t ≡ None → get b.waiting t ≡ None
    → revoke_alone b t ≡ plainly nothing b
ends_none_alone b t parents none bare =
    ap (λ ts. plainly nothing (drop_waiting (record b { tokens = ts }) t)) (orphan_unknown b.tokens t parents none)
    ∙ ap (plainly nothing) (drop_unknown b t bare)

-- and a wrapping token ends alone
ends_wrapping : (b : Broker) (t : Text) → get b.tokens t ≡ None → revoke_token b t ≡ plainly nothing (drop_waiting b t)
ends_wrapping b t none = ap (λ ts. plainly nothing (drop_waiting (record b { tokens = ts }) t))
    (revoke_unknown b.tokens t none)
