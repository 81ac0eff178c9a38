-- Laws of rows that represent a broker.
use Rattle.std.specs.Prelude.{◌≡◌, if◌then◌else◌, ◌≢◌, refl, Bool, true, false, Option, Some, None, option_map, List}
use Rattle.broker_model.specs.Words.{sym, ◌∙◌, ap, subst, inl, inr, false≢true, option_and_then, length, Broker, get}
use Rattle.broker_model.specs.Words.{change, get-change, found_or_not, token, wrapping_token, token_identifier}
use Rattle.broker_model.specs.Words.{lease_of, OnePlaceEach, drop_waiting, drop_sound, Text, same, Sound, Token}
use Rattle.broker_model.specs.Words.{length-token, AgreeOutside, joined_rows, rows_of-other_waiting, Part, Tells}
use Rattle.broker_model.specs.Words.{KeepsOthers, of_tokens, of_leases, of_waiting, of_mounts, of_policies, token_len}
use Rattle.broker_model.specs.Words.{Table, table_of, Rows, RepresentsTokens, RepresentsLeases, same_rows, token_of}
use Rattle.broker_model.specs.Words.{RepresentsWaiting, AreMounts, mounts_told, told_at, ArePoliciesAt, ArePolicies}
use Rattle.broker_model.specs.Words.{policies_told, forms}
use Rattle.broker_types.specs.IdentifierPlaces.{Place}
use Rattle.broker_rows.specs.EndingLaws.{no_token, is_lease}
use Rattle.broker_rows.specs.Representing.{Represents}

-- they represent the same broker
pub still_represented : {who : Option Text} (b : Broker) (old new : Rows) → new ≡ old → Represents who old b
    → Represents who new b
still_represented {who} b old new e st = subst (λ rows. Represents who rows b) (sym e) st

-- rows that are a broker's tell each part of it
pub tells_part : {who : Option Text} (part : Part) (b : Broker) (rows : Rows) → Represents who rows b
    → Tells part (table_of rows) b
tells_part part b rows st k q _ = ap (λ (t : Table). t k q) st.rows

-- every kind of rows
abbrev pub everything : Part
everything k = true

-- rows of one part have changed, and represent the broker that they tell, which is sound
pub represents_next : {who : Option Text} (part : Part) (b c : Broker) (old new : Rows) → Represents who old b
    → Sound forms who c → AgreeOutside part b c → Tells part (table_of new) c
    → KeepsOthers part (table_of old) (table_of new) → Represents who new c
represents_next part b c old new st sound agree tells keeps = record {
  rows = joined_rows part (table_of old) (table_of new) b c st.rows tells keeps agree;
  sound = sound;
}

-- rows that represent a broker represent its tokens
pub represents_tokens : {who : Option Text} (b : Broker) (rows : Rows) → Represents who rows b
    → RepresentsTokens forms (table_of rows) b
represents_tokens b rows st = record {
  sound = st.sound.tokens;
  one_place = st.sound.identifiers.one_place;
  tells = tells_part of_tokens b rows st;
}

-- the responses that wait in it
pub represents_waiting : {who : Option Text} (b : Broker) (rows : Rows) → Represents who rows b
    → RepresentsWaiting (table_of rows) b
represents_waiting b rows st = record {
  sound = st.sound.waiting;
  one_place = st.sound.identifiers.one_place;
  tells = tells_part of_waiting b rows st;
}

-- and where one was dropped, the broker without it
pub represents_dropped : {who : Option Text} (b : Broker) (t : Text) (old new : Rows) → Represents who old b
    → Tells of_waiting (table_of new) (drop_waiting b t) → KeepsOthers of_waiting (table_of old) (table_of new)
    → Represents who new (drop_waiting b t)
represents_dropped {who} b t old new st tells keeps =
    represents_next of_waiting b (drop_waiting b t) old new st (drop_sound b t forms who st.sound)
    (rows_of-other_waiting b (drop_waiting b t).waiting) tells keeps

abbrev is_wrapping : Place → Bool
is_wrapping (wrapping_token t) = true
is_wrapping _ = false

-- what is a token is no wrapping token
pub one_kind : (b : Broker) (t : Text) → OnePlaceEach b → get b.tokens t ≢ None → get b.waiting t ≡ None
one_kind b t one here = elim (found_or_not (get b.waiting t)) [
  | inl none ↦ none
  | inr w ↦ elim (found_or_not (get b.tokens t)) [
    | inl none ↦ absurd (here none)
    | inr x ↦
        let both : token t ≡ wrapping_token t =
        one (token t) (wrapping_token t) (token_identifier t) (ap (option_map (λ _. token_identifier t)) x.1)
        (ap (option_map (λ _. token_identifier t)) w.1) in
        absurd (false≢true (ap is_wrapping both))
  ]
]

-- and its leases, also where rows of tokens alone have changed since
pub represents_leases : {who : Option Text} (b : Broker) (old new : Rows) → Represents who old b
    → KeepsOthers of_tokens (table_of old) (table_of new) → RepresentsLeases (table_of new) b
represents_leases b old new st others = record {
  sound = λ t lease_id l is.
      let x = token_of b t lease_id l is in (st.sound.tokens.each t x.0 x.1).leases lease_id l x.2;
  one_place = st.sound.identifiers.one_place;
  tells = λ k q h. others k q (no_token k (is_lease k h).0) ∙ tells_part of_leases b old st k q h;
}

-- where rows of tokens alone have changed, those of leases are those of a broker whose tokens have the same leases
pub leases_still : {who : Option Text} (b c : Broker) (old new : Rows) → Represents who old b
    → KeepsOthers of_tokens (table_of old) (table_of new)
    → ((t lease_id : Text) → lease_of c t lease_id ≡ lease_of b t lease_id) → Tells of_leases (table_of new) c
leases_still b c old new st others same =
    let leases = represents_leases b old new st others in
    same_rows b c (table_of new) leases.one_place same leases.tells

-- a token that is changed has the same leases, if the change leaves them
pub changed_leases : (b : Broker) (t : Text) (f : Token → Token) → ((x : Token) → (f x).leases ≡ x.leases)
    → (q lease_id : Text) → lease_of (record b { tokens = change b.tokens t f }) q lease_id ≡ lease_of b q lease_id
changed_leases b t f keeps q lease_id =
    ap (option_and_then (λ (x : Token). get x.leases lease_id)) (get-change b.tokens t f q)
    ∙ inner (same q t) (get b.tokens q)
  where
    inner : (v : Bool) (o : Option Token)
        → option_and_then (λ (x : Token). get x.leases lease_id) (option_map (λ x. if v then f x else x) o)
        ≡ option_and_then (λ (x : Token). get x.leases lease_id) o
    inner v None = refl
    inner true (Some x) = ap (λ m. get m lease_id) (keeps x)
    inner false (Some x) = refl

-- the tokens of a broker have the length of tokens
pub tokens_long : {who : Option Text} (b : Broker) (rows : Rows) → Represents who rows b → (t : Text) (x : Token)
    → get b.tokens t ≡ Some x → length t ≡ token_len
tokens_long b rows st t x is = length-token t (st.sound.tokens.each t x is).name

-- the token of a caller that is there has forty bytes
pub caller_len : {who : Option Text} (b : Broker) (rows : Rows) (t : Text) → Represents who rows b
    → get b.tokens t ≢ None → length t ≡ token_len
caller_len b rows t st here =
    elim (found_or_not (get b.tokens t)) [
      | inl none ↦ absurd (here none)
      | inr some ↦ length-token t (st.sound.tokens.each t some.0 some.1).name
    ]

-- the rows of mounts that a broker has are those of its mounts
pub mounts_there : {who : Option Text} (b : Broker) (rows : Rows) → Represents who rows b
    → AreMounts (table_of rows) b.mounts
mounts_there b rows st = mounts_told (table_of rows) b st.sound.mounts (tells_part of_mounts b rows st)

-- the rows of policies that a broker has are those of its policies
pub policies_there : {who : Option Text} (b : Broker) (rows : Rows) → Represents who rows b
    → ArePolicies (table_of rows) b.policies
policies_there b rows st = policies_told (table_of rows) b (tells_part of_policies b rows st)

-- the rows that a broker has are those of its policies
pub named_policies_there : {who : Option Text} (b : Broker) (rows : Rows) (names : List Text) → Represents who rows b
    → ArePoliciesAt (table_of rows) names b.policies
named_policies_there b rows names st = told_at (table_of rows) b names (tells_part of_policies b rows st)
