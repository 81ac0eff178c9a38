-- Definitions computed on small inputs.
use Rattle.std.proofs.Common.{◌≡◌, ◌+◌, ◌∷◌, if◌then◌else◌, ◌&&◌, ℕ, List, [], true, false, not, cond, Option, Some, ap}
use Rattle.broker_types.specs.Words.{None, option_map, option_and_then, nat_lt, length, replicate, codes, is_none, ⊤}
use Rattle.broker_types.specs.Words.{Less, Greater, list_any, list_all, option_map_or, refl, ◌∙◌, Text, text_cmp, same}
use Rattle.broker_types.specs.Words.{Map, get, len, put, without, keep, with_values, map_values, change, first_where}
use Rattle.broker_types.specs.Words.{entries, empty, is_name, is_mount_name, Token, Tokens, Lease, climb, lineage}
use Rattle.broker_types.specs.Words.{is_under, without_descendants, without_parent, orphaned_by, outlasts, is_alive}
use Rattle.broker_types.specs.Words.{alive_at, with_live_leases, ends_within, Broker, Waiting, waiting_ends, at_moment}
use Rattle.broker_types.specs.Words.{revoke, root_token, first_broker, is_ascending, token_identifier, lease_identifier}
use Rattle.broker_types.specs.Words.{identifier_at, credential, wrapping_token, wrapping_accessor, one_less, is_spent}
use Rattle.broker_types.specs.Words.{spend, end_spent, are_new, use_up}
use Rattle.std.specs.FinMap as fin
use Rattle.std.specs.List.{find}
use Rattle.broker_types.specs.IdentifierPlaces as place
use Rattle.broker_types.specs.MapLaws.{get-put, get-without, get-keep, get-map_values, get-change, entries-map_values}

-- ---- texts

before : text_cmp (codes "a") (codes "ab") ≡ Less
before = refl

after : text_cmp (codes "b") (codes "ab") ≡ Greater
after = refl

alike : same (codes "ab") (codes "ab") ≡ true
unfolding same
alike = refl

unlike : same (codes "ab") (codes "aB") ≡ false
unfolding same
unlike = refl

ascending : is_ascending (codes "a" ∷ codes "ab" ∷ codes "b" ∷ []) ≡ true
ascending = refl

not_ascending : is_ascending (codes "b" ∷ codes "ab" ∷ []) ≡ false
not_ascending = refl

not_twice : is_ascending (codes "a" ∷ codes "a" ∷ []) ≡ false
not_twice = refl

-- ---- maps

abbrev a : Text
a = codes "a"

abbrev b : Text
b = codes "b"

abbrev two : Map ℕ
two = fin.from_sorted ((a, 1) ∷ (b, 2) ∷ [])

entries-two : entries two ≡ (a, 1) ∷ (b, 2) ∷ []
entries-two = fin.entries-from_sorted text_cmp ((a, 1) ∷ (b, 2) ∷ []) tt

put_anew : get (put two b 3) b ≡ Some 3
unfolding same
put_anew = get-put two b 3 b

put_beside : get (put two b 3) a ≡ Some 1
unfolding same
put_beside = get-put two b 3 a ∙ fin.get-from_sorted text_cmp ((a, 1) ∷ (b, 2) ∷ []) a tt

taken_out : get (without two a) a ≡ None
unfolding same
taken_out = get-without two a a

left_in : get (without two a) b ≡ Some 2
unfolding same
left_in = get-without two a b ∙ fin.get-from_sorted text_cmp ((a, 1) ∷ (b, 2) ∷ []) b tt

passed : get (keep (same b) two) b ≡ Some 2
unfolding same
passed = get-keep (same b) two b ∙ fin.get-from_sorted text_cmp ((a, 1) ∷ (b, 2) ∷ []) b tt

not_passed : get (keep (same b) two) a ≡ None
unfolding same
not_passed = get-keep (same b) two a

each_changed : entries (map_values (λ k n. n + length k) two) ≡ (a, 2) ∷ (b, 3) ∷ []
each_changed = entries-map_values (λ k n. n + length k) two ∙ ap (with_values (λ k n. n + length k)) entries-two

one_changed : entries (change two b (λ n. n + 5)) ≡ (a, 1) ∷ (b, 7) ∷ []
unfolding same
one_changed = entries-map_values (λ q n. if same q b then n + 5 else n) two
    ∙ ap (with_values (λ q n. if same q b then n + 5 else n)) entries-two

first_above_one : first_where (λ k n. nat_lt 1 n) two ≡ Some (b, 2)
first_above_one = ap (find (λ e. nat_lt 1 e.1)) entries-two

-- ---- names and limits

named : is_name (codes "a.B-c_9") ≡ true
named = refl

named_at_most : is_name (replicate 128 97) ≡ true
named_at_most = refl

named_too_long : is_name (replicate 129 97) ≡ false
named_too_long = refl

nameless : is_name [] ≡ false
nameless = refl

with_slash : is_name (codes "a/b") ≡ false
with_slash = refl

mount : is_mount_name (codes "secret") ≡ true
unfolding same
mount = refl

no_mount : is_mount_name (codes "cubbyhole") ≡ false
unfolding same
no_mount = refl

-- ---- the tree of tokens: r above t and v, and t, which ends at 10, above u

abbrev r : Text
r = codes "r"

abbrev t : Text
t = codes "t"

abbrev u : Text
u = codes "u"

abbrev v : Text
v = codes "v"

abbrev under : Text → Option ℕ → Token
under parent ends = record (root_token 0 parent) { parent = Some parent; ends = ends }

abbrev tokens : List (Text × Token)
tokens = (r, root_token 0 r) ∷ (t, under r (Some 10)) ∷ (u, under t None) ∷ (v, under r None) ∷ []

abbrev tree : Tokens
tree = fin.from_sorted tokens

at : (q : Text) → get tree q ≡ fin.find text_cmp q tokens
at q = fin.get-from_sorted text_cmp tokens q tt

four : len tree ≡ 4
four = fin.len-entries tree ∙ ap length (fin.entries-from_sorted text_cmp tokens tt)

lineage-u : lineage tree u ≡ u ∷ t ∷ r ∷ []
lineage-u = ap (λ n. climb n tree u) four ∙ rw (at u) (rw (at t) (rw (at r) refl))

lineage-v : lineage tree v ≡ v ∷ r ∷ []
lineage-v = ap (λ n. climb n tree v) four ∙ rw (at v) (rw (at r) refl)

u-under-t : is_under tree u t ≡ true
unfolding same
u-under-t = ap (list_any (same t)) lineage-u

v-beside-t : is_under tree v t ≡ false
unfolding same
v-beside-t = ap (list_any (same t)) lineage-v

revoked : get (without_descendants tree t) u ≡ None
revoked = get-keep (λ q. not (is_under tree q t)) tree u ∙ ap (λ is. cond (not is) (get tree u) None) u-under-t

left : get (without_descendants tree t) v ≡ Some (under r None)
left = get-keep (λ q. not (is_under tree q t)) tree v ∙ ap (λ is. cond (not is) (get tree v) None) v-beside-t ∙ at v

orphaned : get (without_parent tree t) u ≡ Some (record (under t None) { parent = None })
unfolding same
orphaned = get-map_values (λ q. orphaned_by t) (without tree t) u
    ∙ ap (option_map (orphaned_by t)) (get-without tree t u ∙ at u)

alone : get (without_parent tree t) t ≡ None
unfolding same
alone = get-map_values (λ q. orphaned_by t) (without tree t) t ∙ ap (option_map (orphaned_by t)) (get-without tree t t)

alive : is_alive 9 tree u ≡ true
alive = ap (list_all (λ q. outlasts 9 (option_and_then (λ (x : Token). x.ends) (get tree q)))) lineage-u
    ∙ rw (at u) (rw (at t) (rw (at r) refl))

ended_above : is_alive 10 tree u ≡ false
ended_above = ap (list_all (λ q. outlasts 10 (option_and_then (λ (x : Token). x.ends) (get tree q)))) lineage-u
    ∙ rw (at u) (rw (at t) refl)

ended : get (alive_at 10 tree) u ≡ None
ended = get-map_values (λ q. with_live_leases 10) (keep (is_alive 10 tree) tree) u
    ∙ ap (option_map (with_live_leases 10))
    (get-keep (is_alive 10 tree) tree u ∙ ap (λ is. cond is (get tree u) None) ended_above)

chain_ends : ends_within (len tree) tree u ≡ true
chain_ends = ap (λ n. ends_within n tree u) four ∙ rw (at u) (rw (at t) (rw (at r) refl))

-- two tokens, each the parent of the other
abbrev ring : List (Text × Token)
ring = (a, under b None) ∷ (b, under a None) ∷ []

abbrev knot : Tokens
knot = fin.from_sorted ring

in-ring : (q : Text) → get knot q ≡ fin.find text_cmp q ring
in-ring q = fin.get-from_sorted text_cmp ring q tt

chain_never_ends : ends_within (len knot) knot a ≡ false
chain_never_ends =
    ap (λ n. ends_within n knot a) (fin.len-entries knot ∙ ap length (fin.entries-from_sorted text_cmp ring tt))
    ∙ rw (in-ring a) (rw (in-ring b) (rw (in-ring a) refl))

-- ---- leases and waiting responses, which end when their last second is over

abbrev lease_id : Text
lease_id = codes "db/creds/r/00000000-0000-0000-0000-000000000013"

abbrev lease : Lease
lease = record {
  issued = 4;
  ttl = 6;
  max_ttl = 0;
  ends = 10;
  renewed = None;
  credential = codes "00000000-0000-0000-0000-000000000014";
}

abbrev leases : Map Lease
leases = fin.from_sorted ((lease_id, lease) ∷ [])

abbrev lessee : Token
lessee = record (root_token 0 r) { leases = leases }

leased : get leases lease_id ≡ Some lease
leased = fin.get-from_sorted text_cmp ((lease_id, lease) ∷ []) lease_id tt

lease_lives : get (with_live_leases 9 lessee).leases lease_id ≡ Some lease
lease_lives = get-keep (λ id. option_map_or (λ (l : Lease). nat_lt 9 l.ends) (get leases id) false) leases lease_id
    ∙ rw leased refl

lease_ended : get (with_live_leases 10 lessee).leases lease_id ≡ None
lease_ended = get-keep (λ id. option_map_or (λ (l : Lease). nat_lt 10 l.ends) (get leases id) false) leases lease_id
    ∙ rw leased refl

abbrev wrapping : Text
wrapping = codes "hvs.00000000-0000-0000-0000-000000000025"

abbrev response : Waiting
response =
    record {
      accessor = codes "00000000-0000-0000-0000-000000000026";
      created = 100;
      ttl = 5;
      path = codes "cubbyhole/a";
      origin = codes "00000000-0000-0000-0000-000000000025";
      reply = codes "{}";
    }

abbrev waiting : Map Waiting
waiting = fin.from_sorted ((wrapping, response) ∷ [])

abbrev broker : Broker
broker = record (first_broker 100 1 2) { waiting = waiting; tokens = fin.from_sorted ((r, lessee) ∷ []) }

waits : get waiting wrapping ≡ Some response
waits = fin.get-from_sorted text_cmp ((wrapping, response) ∷ []) wrapping tt

still_waits : get (at_moment broker 104).waiting wrapping ≡ Some response
still_waits = get-keep (λ q. option_map_or (λ w. nat_lt 104 (waiting_ends w)) (get waiting q) false) waiting wrapping
    ∙ rw waits refl

waited : get (at_moment broker 105).waiting wrapping ≡ None
waited = get-keep (λ q. option_map_or (λ w. nat_lt 105 (waiting_ends w)) (get waiting q) false) waiting wrapping
    ∙ rw waits refl

clock_moves_on : (at_moment broker 104).clock ≡ 104
clock_moves_on = refl

clock_stays : (at_moment broker 99).clock ≡ 100
clock_stays = refl

-- ---- where identifiers are

of_token : token_identifier wrapping ≡ codes "00000000-0000-0000-0000-000000000025"
of_token = refl

of_lease : lease_identifier lease_id ≡ codes "00000000-0000-0000-0000-000000000013"
of_lease = refl

wrapping_token_stands : identifier_at broker (wrapping_token wrapping)
    ≡ Some (codes "00000000-0000-0000-0000-000000000025")
wrapping_token_stands = rw waits refl

its_accessor_stands : identifier_at broker (wrapping_accessor wrapping)
    ≡ Some (codes "00000000-0000-0000-0000-000000000026")
its_accessor_stands = rw waits refl

lessee_stands : get broker.tokens r ≡ Some lessee
lessee_stands = fin.get-from_sorted text_cmp ((r, lessee) ∷ []) r tt

credential_stands : identifier_at broker (credential r lease_id) ≡ Some (codes "00000000-0000-0000-0000-000000000014")
credential_stands = rw lessee_stands (rw leased refl)

lease_stands : identifier_at broker (place.lease r lease_id) ≡ Some (codes "00000000-0000-0000-0000-000000000013")
lease_stands = rw lessee_stands (rw leased refl)

-- ---- uses and identifiers given out

one_use_less : (one_less (record (root_token 0 r) { uses_left = Some 3 })).uses_left ≡ Some 2
one_use_less = refl

no_limit : (one_less (root_token 0 r)).uses_left ≡ None
no_limit = refl

last_use : is_spent (record (root_token 0 r) { uses_left = Some 0 }) ≡ true
last_use = refl

-- a token with one use left, and a broker that has it alone
abbrev limited : Token
limited = record (root_token 0 r) { uses_left = Some 1 }

abbrev issuer : Broker
issuer = record (first_broker 100 1 2) { tokens = fin.from_sorted ((t, limited) ∷ []) }

limited_stands : get issuer.tokens t ≡ Some limited
limited_stands = fin.get-from_sorted text_cmp ((t, limited) ∷ []) t tt

use_spent : get (spend issuer t).tokens t ≡ Some (record limited { uses_left = Some 0 })
unfolding same
use_spent = get-change issuer.tokens t one_less t ∙ rw limited_stands refl

ends_when_spent : end_spent (spend issuer t) (Some t) ≡ revoke (spend issuer t) t
unfolding same
ends_when_spent = rw use_spent refl

not_before : end_spent issuer (Some t) ≡ issuer
not_before = rw limited_stands refl

abbrev used : Map ⊤
used = fin.from_sorted ((a, tt) ∷ [])

seen : (q : Text) → get used q ≡ fin.find text_cmp q ((a, tt) ∷ [])
seen q = fin.get-from_sorted text_cmp ((a, tt) ∷ []) q tt

new : are_new used (b ∷ r ∷ []) ≡ true
unfolding same
new = rw (seen b) (rw (seen r) refl)

used_up : get (use_up used (b ∷ [])) b ≡ Some tt
unfolding same
used_up = get-put used b tt b

equal_ones_are_not_new : are_new empty (a ∷ a ∷ []) ≡ false
unfolding same
equal_ones_are_not_new = ap (λ o. is_none o && (false && (is_none o && true))) (fin.get-empty text_cmp a)

given_out : are_new (use_up empty (a ∷ [])) (a ∷ []) ≡ false
unfolding same
given_out = ap (λ o. is_none o && true) (get-put empty a (tt {0}) a)
