-- What look-ups answer.
use Rattle.std.proofs.Common.{◌≡◌, ◌≢◌, ◌⊎◌, ◌<◌, ◌≤◌, ◌∷◌, if◌then◌else◌}
use Rattle.broker_model.specs.Words.{put_filled, credential_is, lease_of_credential, oldest_of, version_metadata}
use Rattle.broker_model.specs.Words.{NamedTokensHaveTheirAccessors, key_object, mounts_object, secret_told}
use Rattle.broker_model.specs.Words.{version_told, look_up, named}
use Rattle.leases.specs.Leases as leases
use Rattle.leases.specs.Roles as roles
use Rattle.kv2.specs.Secrets as secrets
use Rattle.policies.specs.Policies as policies
use Rattle.histories.specs.Words.{entries, by_accessor, find_accessor, ℕ, nat_lt, List, [], map, Bool, true, false}
use Rattle.histories.specs.Words.{not, is_none, is_some, Some, None, Result, Ok, option_and_then, option_map, codes}
use Rattle.histories.specs.Words.{refl, sym, ◌∙◌, ap, subst, inl, inr, arith, false≢true, ltb-false, ltb-true}
use Rattle.histories.specs.Words.{none-some, same_Some, Text, same, same_self, same_true, first_where, get, put}
use Rattle.histories.specs.Words.{get-change, Response, Broker, Names, names_of, reply, Done, found_or_not, mapped}
use Rattle.histories.specs.Words.{OnePlaceEach, lease_of, put_keeps, put_there, some_or, unless, no_ok, ok_step}
use Rattle.histories.specs.Words.{first_where_is, first_where_none, Version, one_less, status_code, Lease, Token}
use Rattle.histories.specs.Words.{Refusal, Reply, has_lease, ok_inj, metadata_of, AccessorsNameTheirTokens}
use Rattle.histories.specs.Words.{keys_object, plain_reply, reply_text, Command, command_of, on_issued, on_lease}
use Rattle.histories.specs.Words.{on_mount, on_policy, on_secret, on_token, on_wrapping, chained, OperationsDoAsTold}
use Rattle.histories.specs.Words.{Outcome, step, unwrapped_ask, are_none, Place, known, IssuedCommand, LeaseCommand}
use Rattle.histories.specs.Words.{MountCommand, PolicyCommand, SecretCommand, TokenCommand, WrappingCommand, Asking}
use Rattle.histories.specs.Words.{clocked, spent_by, AllAnswersShow, IsAccessorOf, IsPolicyName, IsValid, Lists}
use Rattle.histories.specs.Words.{ListsMounts, SaysValid, ShowsHolder, ShowsLease, ShowsPolicy, ShowsRole, ShowsSecret}
use Rattle.histories.specs.Words.{ShowsSettings, ShowsToken, Succeeds, version_shown, answer_by, unwrapped_answer}
use Rattle.histories.specs.Words.{unwrapped_body, IsClient, named as named_secret}
use Rattle.histories.proofs.Clients.{from_clock}
use Rattle.histories.proofs.MountsListed.{cubbyhole_shown, in_order, objects, only_shown, own_shown, system_shown}
use Rattle.histories.proofs.Order.{some_ok, asked_at, tells_body, served}
use Rattle.histories.proofs.Placed.{one_place_still}
use Rattle.histories.proofs.Renewals.{tells_renewed, tells_renewed_lease}
use Rattle.histories.proofs.ServedFor.{NeedsCaller, ServedFor, served_for}

module _ (told : OperationsDoAsTold) (a : Asking) (is : a.outcome ≡ step a.broker a.moment a.words a.ask) where
  abbrev names : Names
  names = names_of a.words

  -- what the ask would be answered without its wrap TTL
  abbrev answer : Response
  answer = (step a.broker a.moment a.words (unwrapped_ask a.ask)).response

  -- without a wrap TTL
  plain_answer : a.ask.wrap_ttl ≡ 0
      → ((text : Text) → command_of (clocked a).mounts a.ask ≡ Ok (on_wrapping (WrappingCommand.Wrap text)) → ⊥)
      → a.outcome.response ≡ unwrapped_answer a
  plain_answer none no_wrap =
      ap (λ (o : Outcome). o.response) is
      ∙ ap (λ n. (step a.broker a.moment a.words (record a.ask { wrap_ttl = n })).response) none
      ∙ sym (by (command_of (clocked a).mounts a.ask) refl)
    where
      by : (r : Result Command Refusal) → command_of (clocked a).mounts a.ask ≡ r
          → answer_by names a.ask.body answer r ≡ answer
      by (Ok (on_wrapping (WrappingCommand.Wrap text))) e = absurd (no_wrap text e)
      by _ e = refl

  -- the command was carried out for its client token
  for : (k : Command) → Succeeds a k → NeedsCaller k → ServedFor a k
  for k h needs = served_for a (served a is (omega (arith, ap status_code h.answered))) k h.means needs

  -- what was replied is the answer
  tells : (k : Command) (s : ServedFor a k) (r : Reply) (d : Done)
      → ◌≡◌ {A = Result Done Refusal} (Ok d) (Ok s.it.done) → d.answered ≡ reply r None
      → unwrapped_body a ≡ reply_text r
  tells k s r d e answered =
      sym (tells_body told a s.it r None (ap (λ (z : Done). z.answered) (sym (ok_inj e)) ∙ answered)).0

  -- ---- tokens

  -- a token that is shown under an id
  shows_token : (k : Command) (s : ServedFor a k) (t id : Text)
      → look_up (spent_by a s.caller) names t id ≡ Ok s.it.done → ShowsToken a t id
  shows_token k s t id e =
      let x = ok_step (known (spent_by a s.caller) t) _ s.it.done e in
      record {
        caller = s.caller;
        client = s.client;
        found = x.0;
        there = some_ok _ (get (spent_by a s.caller).tokens t) x.1;
        shows = tells k s _ _ x.2 refl;
      }

  pub token_shown : (t : Text) → Succeeds a (on_token (TokenCommand.LookUp t)) → ShowsToken a t t
  token_shown t h =
      let s = for (on_token (TokenCommand.LookUp t)) h (λ b names d e. no_ok e) in
      shows_token (on_token (TokenCommand.LookUp t)) s t t s.acted

  pub self_shown : Succeeds a (on_token TokenCommand.LookUpSelf) → (c : Text) × IsClient a c × ShowsToken a c c
  self_shown h =
      let s = for (on_token TokenCommand.LookUpSelf) h (λ b names d e. no_ok e) in
      (s.caller, s.client, shows_token (on_token TokenCommand.LookUpSelf) s s.caller s.caller s.acted)

  pub holder_shown : NamedTokensHaveTheirAccessors → (accessor : Text)
      → Succeeds a (on_token (TokenCommand.LookUpAccessor accessor)) → ShowsHolder a accessor
  holder_shown theirs accessor h =
      let k = on_token (TokenCommand.LookUpAccessor accessor) in
      let s = for k h (λ b names d e. no_ok e) in
      let t = ok_step (named (spent_by a s.caller) accessor) _ s.it.done s.acted in
      let x = ok_step (known (spent_by a s.caller) t.0) _ s.it.done t.2 in
      let there = some_ok _ (get (spent_by a s.caller).tokens t.0) x.1 in
      let its = theirs (spent_by a s.caller) t.0 accessor
      (some_ok _ (find_accessor (spent_by a s.caller) accessor) t.1) in
      record {
        text = t.0;
        shown = record {
          caller = s.caller;
          client = s.client;
          found = x.0;
          there = there;
          shows = tells k s _ _ x.2 refl;
        };
        holds = ap (λ (z : Token). z.accessor) (same_Some _ _ (sym there ∙ its.1)) ∙ its.2;
      }

  -- ---- leases

  -- a lease of a token after the use that its client token spent was one before
  lease_was : (k : Command) (s : ServedFor a k) (q lease_id : Text) (x : Token) (l : Lease)
      → get (spent_by a s.caller).tokens q ≡ Some x → get x.leases lease_id ≡ Some l
      → lease_of (clocked a) q lease_id ≡ Some l
  lease_was k s q lease_id x l there has =
      let from = from_clock a s.caller s.client q x there in
      ap (option_and_then (λ (z : Token). get z.leases lease_id)) from.there
      ∙ ap (λ (z : Token). get z.leases lease_id) (sym from.rest) ∙ has

  pub lease_shown : (prefix lease_id : Text) → Succeeds a (on_lease prefix (LeaseCommand.LookUp lease_id))
      → ShowsLease a lease_id
  lease_shown prefix lease_id h =
      let k = on_lease prefix (LeaseCommand.LookUp lease_id) in
      let s = for k h (λ b names d e. no_ok e) in
      let b = spent_by a s.caller in
      let l = ok_step (leases.lookup b lease_id) _ s.it.done s.acted in
      let e = chained (λ e. get e.1.leases lease_id) (first_where (λ t (x : Token). has_lease lease_id x) b.tokens) l.0
      (some_ok _ (leases.find b lease_id) l.1) in
      let there = first_where_is (λ t (x : Token). has_lease lease_id x) b.tokens e.0 e.1 in
      record {
        holder = (e.0).0;
        found = l.0;
        there = lease_was k s (e.0).0 lease_id (e.0).1 l.0 there.0 e.2;
        shown = _;
        is_shown = refl;
        shows = tells k s _ _ l.2 refl;
      }

  -- a credential is valid if some token has its lease
  module _ (credential : Text) (k : Command) (s : ServedFor a k) where
    abbrev b : Broker
    b = spent_by a s.caller

    abbrev has_it : Text → Token → Bool
    has_it t x = not (is_none (lease_of_credential credential x))

    found_one : (e : Text × Token) → first_where has_it b.tokens ≡ Some e → IsValid (clocked a) credential
    found_one e is_e =
        let there = first_where_is has_it b.tokens e is_e in
        elim (found_or_not (lease_of_credential credential e.1)) [
          | inl none ↦ absurd (false≢true (ap (λ o. not (is_none o)) (sym none) ∙ there.1))
          | inr l ↦
              let its = first_where_is (credential_is credential) e.1.leases l.0 l.1 in (
                e.0,
                l.0.0,
                l.0.1,
                lease_was k s e.0 l.0.0 e.1 l.0.1 there.0 its.0,
                same_true l.0.1.credential credential its.1,
              )
        ]

    yes : leases.verify b credential ≡ true → IsValid (clocked a) credential
    yes found = elim (found_or_not (first_where has_it b.tokens)) [
      | inl none ↦ absurd (false≢true (ap (λ o. is_some o) (sym none) ∙ found))
      | inr e ↦ found_one e.0 e.1
    ]

    no : leases.verify b credential ≡ false → IsValid (clocked a) credential → ⊥
    no none (q, lease_id, l, there, its) = elim (found_or_not (first_where has_it b.tokens)) [
      | inr e ↦ false≢true (sym none ∙ ap (λ o. is_some o) e.1)
      | inl away ↦
          let x = chained (λ (z : Token). get z.leases lease_id) (get (clocked a).tokens q) l there in
          let y = after_use q x.0 x.1 in
          let away_here = first_where_none has_it b.tokens q y.0 away y.1 in
          elim (found_or_not (lease_of_credential credential y.0)) [
            | inr m ↦ false≢true (sym away_here ∙ ap (λ o. not (is_none o)) m.1)
            | inl nothing_ ↦ false≢true
                (sym (first_where_none (credential_is credential) y.0.leases lease_id l nothing_
                (ap (λ m. get m lease_id) y.2 ∙ x.2))
                ∙ ap (λ u. same u credential) its ∙ same_self credential)
          ]
    ]
      where
        -- the token after the use, with the same leases
        after_use : (q : Text) (x : Token) → get (clocked a).tokens q ≡ Some x
            → (y : Token) × (get b.tokens q ≡ Some y) × (y.leases ≡ x.leases)
        after_use q x there = (
          if same q s.caller then one_less x else x,
          get-change (clocked a).tokens s.caller one_less q
              ∙ ap (option_map (λ z. if same q s.caller then one_less z else z)) there,
          by (same q s.caller) x,
        )
          where
            by : (v : Bool) (x : Token) → (if v then one_less x else x).leases ≡ x.leases
            by true x = refl
            by false x = refl

  pub valid_said : (p : Place) (credential : Text) → Succeeds a (on_issued p (IssuedCommand.Verify credential))
      → SaysValid a credential
  valid_said p credential h =
      let k = on_issued p (IssuedCommand.Verify credential) in
      let s = for k h (λ b names d e. no_ok e) in
      record {
        valid = leases.verify (spent_by a s.caller) credential;
        shows = tells k s _ _ s.acted refl;
        yes = yes credential k s;
        no = no credential k s;
      }

  -- ---- settings

  pub role_shown : (p : Place) → Succeeds a (on_issued p IssuedCommand.ShowRole) → ShowsRole a (named_secret p)
  role_shown p h =
      let k = on_issued p IssuedCommand.ShowRole in
      let s = for k h (λ b names d e. no_ok e) in
      let r = ok_step (some_or Refusal.NotFound (roles.role (clocked a) p.mount p.path)) _ s.it.done s.acted in
      record {
        found = r.0;
        there = some_ok Refusal.NotFound (roles.role (clocked a) p.mount p.path) r.1;
        shows = tells k s _ _ r.2 refl;
      }

  pub settings_shown : (p : Place) → Succeeds a (on_secret p SecretCommand.ShowSettings) → ShowsSettings a p.mount
  settings_shown p h =
      let k = on_secret p SecretCommand.ShowSettings in
      let s = for k h (λ b names d e. no_ok e) in
      let m = ok_step (some_or Refusal.NotFound (secrets.config (clocked a) p.mount)) _ s.it.done s.acted in
      record {
        found = m.0;
        there = some_ok Refusal.NotFound (secrets.config (clocked a) p.mount) m.1;
        shows = tells k s _ _ m.2 refl;
      }

  pub policy_shown : (name : Text) → Succeeds a (on_policy name PolicyCommand.Show) → ShowsPolicy a name
  policy_shown name h =
      let k = on_policy name PolicyCommand.Show in
      let s = for k h (λ b names d e. no_ok e) in
      let text = ok_step (some_or Refusal.NotFound (policies.text_of (clocked a).policies name)) _ s.it.done s.acted in
      record {
        text = text.0;
        is = by text.0 (policies.is_root name) refl
            (some_ok Refusal.NotFound (policies.text_of (clocked a).policies name) text.1);
        shows = tells k s _ _ text.2 refl;
      }
    where
      by : (text : Text) (v : Bool) → policies.is_root name ≡ v
          → (if v then Some [] else get (clocked a).policies name) ≡ Some text
          → ((name ≡ codes "root") × (text ≡ [])) ⊎ (get (clocked a).policies name ≡ Some text)
      by text true at e = inl (same_true name (codes "root") at, same_Some _ _ (sym e))
      by text false at e = inr e

  pub secrets_listed : (p : Place) → Succeeds a (on_secret p SecretCommand.List)
      → unwrapped_body a
      ≡ reply_text (plain_reply names.request (keys_object (secrets.list (clocked a) p.mount p.path)))
  secrets_listed p h =
      let k = on_secret p SecretCommand.List in
      let s = for k h (λ b names d e. no_ok e) in
      let some = ok_step (unless (not (are_none (secrets.list (clocked a) p.mount p.path))) Refusal.NotFound) _
      s.it.done s.acted in
      tells k s _ _ some.2 refl

  -- ---- a secret without its texts

  -- the versions, as they are shown
  shown_versions : (es : List (ℕ × Version)) → map version_told (map version_metadata es) ≡ map version_shown es
  shown_versions [] = refl
  shown_versions (e ∷ es) = ap (λ vs. version_shown e ∷ vs) (shown_versions es)

  oldest_none : (es : List (ℕ × Version)) → es ≡ [] → oldest_of (map version_metadata es) ≡ 0
  oldest_none es none = ap (λ xs. oldest_of (map version_metadata xs)) none

  oldest_first : (es : List (ℕ × Version)) (n : ℕ) (v : Version) (rest : List (ℕ × Version)) → es ≡ (n, v) ∷ rest
      → ((n ≤ 1) × (oldest_of (map version_metadata es) ≡ 0))
      ⊎ ((1 < n) × (oldest_of (map version_metadata es) ≡ n))
  oldest_first es n v rest is =
      subst (λ xs. ((n ≤ 1) × (oldest_of (map version_metadata xs) ≡ 0))
      ⊎ ((1 < n) × (oldest_of (map version_metadata xs) ≡ n))) (sym is) (by (nat_lt 1 n) refl)
    where
      by : (w : Bool) → nat_lt 1 n ≡ w
          → ((n ≤ 1) × ((if nat_lt 1 n then n else 0) ≡ 0)) ⊎ ((1 < n) × ((if nat_lt 1 n then n else 0) ≡ n))
      by true above = inr (ltb-true 1 n above, ap (λ w. if w then n else 0) above)
      by false low = inl (ltb-false 1 n low, ap (λ w. if w then n else 0) low)

  pub secret_shown : (p : Place) → Succeeds a (on_secret p SecretCommand.ShowMetadata) → ShowsSecret a (named_secret p)
  secret_shown p h =
      let k = on_secret p SecretCommand.ShowMetadata in
      let s = for k h (λ b names d e. no_ok e) in
      let m = ok_step (some_or Refusal.NotFound (secrets.metadata (clocked a) p.mount p.path)) _ s.it.done s.acted in
      let x = mapped metadata_of (secrets.key_at (clocked a) p.mount p.path) m.0
      (some_ok Refusal.NotFound (secrets.metadata (clocked a) p.mount p.path) m.1) in
      let versions = entries (x.0).versions in
      record {
        found = x.0;
        there = x.1;
        oldest = oldest_of (map version_metadata versions);
        none = oldest_none versions;
        first = oldest_first versions;
        shown = record (secret_told (metadata_of x.0)) { versions = map version_shown versions };
        is_shown = refl;
        shows = tells k s _ _ m.2 refl
            ∙ ap (λ z. reply_text (plain_reply names.request (key_object (secret_told z)))) x.2
            ∙ ap (λ vs. reply_text (plain_reply names.request (key_object
            (record (secret_told (metadata_of x.0)) { versions = vs })))) (shown_versions versions);
      }

  -- ---- lists

  pub policies_listed : (name : Text) → Succeeds a (on_policy name PolicyCommand.List) → Lists a (IsPolicyName a)
  policies_listed name h =
      let k = on_policy name PolicyCommand.List in
      let s = for k h (λ b names d e. no_ok e) in
      let with_default = put (clocked a).policies policies.default [] in
      record {
        names = put with_default policies.root [];
        only = λ q there. put_filled with_default policies.root [] q (IsPolicyName a q) there
            (λ root. inr (inr root))
            (λ rest. put_filled (clocked a).policies policies.default [] q (IsPolicyName a q) rest
            (λ default. inr (inl default)) (λ own. inl own));
        all = λ q passes. by q passes;
        shows = tells k s _ _ s.acted refl;
      }
    where
      by : (q : Text) → IsPolicyName a q
          → get (put (put (clocked a).policies policies.default []) policies.root []) q ≢ None
      by q (inl own) =
          put_keeps (put (clocked a).policies policies.default []) policies.root [] q
          (put_keeps (clocked a).policies policies.default [] q own)
      by q (inr (inl default)) =
          put_keeps (put (clocked a).policies policies.default []) policies.root [] q
          (subst (λ u. get (put (clocked a).policies policies.default []) u ≢ None) (sym default)
          (put_there (clocked a).policies policies.default []))
      by q (inr (inr root)) =
          subst (λ u. get (put (put (clocked a).policies policies.default []) policies.root []) u ≢ None) (sym root)
          (put_there (put (clocked a).policies policies.default []) policies.root [])

  pub mounts_listed : (name : Text) → Succeeds a (on_mount name MountCommand.List) → ListsMounts a
  mounts_listed name h =
      let k = on_mount name MountCommand.List in
      let s = for k h (λ b names d e. no_ok e) in
      let all = (clocked a).mounts in
      record {
        mounts = objects all;
        only = only_shown all;
        own = own_shown all;
        system = system_shown all;
        cubbyhole = cubbyhole_shown all;
        shows = tells k s _ _ s.acted refl
            ∙ ap (λ ms. reply_text (plain_reply names.request (mounts_object ms))) (sym (in_order all));
      }

  pub accessors_listed : AccessorsNameTheirTokens → NamedTokensHaveTheirAccessors → OnePlaceEach a.broker
      → Succeeds a (on_token TokenCommand.ListAccessors) → Lists a (IsAccessorOf a)
  accessors_listed name theirs one h =
      let k = on_token TokenCommand.ListAccessors in
      let s = for k h (λ b names d e. no_ok e) in
      let b = spent_by a s.caller in
      record {
        names = by_accessor b;
        only = λ accessor there. elim (found_or_not (find_accessor b accessor)) [
          | inl none ↦ absurd (there none)
          | inr t ↦
              let x = theirs b t.0 accessor t.1 in
              let from = from_clock a s.caller s.client t.0 x.0 x.1 in
              (t.0, from.earlier, from.there, ap (λ (z : Token). z.accessor) (sym from.rest) ∙ x.2)
        ];
        all = λ accessor passes none.
            let y : get b.tokens passes.0 ≡ Some (if same passes.0 s.caller then one_less passes.1 else passes.1) =
            get-change (clocked a).tokens s.caller one_less passes.0
            ∙ ap (option_map (λ z. if same passes.0 s.caller then one_less z else z)) passes.2 in
            none-some _ (sym none
            ∙ ap (find_accessor b) (sym (same_accessor (same passes.0 s.caller) passes.1 ∙ passes.3))
            ∙ name b passes.0 (if same passes.0 s.caller then one_less passes.1 else passes.1)
            (one_place_still a.broker a.moment s.caller one) y);
        shows = tells k s _ _ s.acted refl;
      }
    where
      same_accessor : (v : Bool) (x : Token) → (if v then one_less x else x).accessor ≡ x.accessor
      same_accessor true x = refl
      same_accessor false x = refl

pub answers_show : OperationsDoAsTold → AccessorsNameTheirTokens → NamedTokensHaveTheirAccessors → AllAnswersShow
answers_show told name theirs b history h = record {
  plain = λ i a at none no_wrap. plain_answer told a (asked_at b history i a h at).outcome none no_wrap;
  by_text = λ i a t at s. token_shown told a (asked_at b history i a h at).outcome t s;
  client_token = λ i a at s. self_shown told a (asked_at b history i a h at).outcome s;
  by_accessor = λ i a accessor at s. holder_shown told a (asked_at b history i a h at).outcome theirs accessor s;
  renewed = λ i a q at r. tells_renewed told a (asked_at b history i a h at).outcome q r;
  lease = λ i a prefix lease_id at s. lease_shown told a (asked_at b history i a h at).outcome prefix lease_id s;
  renewed_lease = λ i a lease_id at r.
      tells_renewed_lease told a (asked_at b history i a h at).outcome lease_id r;
  valid = λ i a p credential at s. valid_said told a (asked_at b history i a h at).outcome p credential s;
  role = λ i a p at s. role_shown told a (asked_at b history i a h at).outcome p s;
  settings = λ i a p at s. settings_shown told a (asked_at b history i a h at).outcome p s;
  policy = λ i a name at s. policy_shown told a (asked_at b history i a h at).outcome name s;
  secret = λ i a p at s. secret_shown told a (asked_at b history i a h at).outcome p s;
  policies = λ i a name_ at s. policies_listed told a (asked_at b history i a h at).outcome name_ s;
  accessors = λ i a at s.
      let is = asked_at b history i a h at in
      accessors_listed told a is.outcome name theirs is.sound.identifiers.one_place s;
  mounts = λ i a name_ at s. mounts_listed told a (asked_at b history i a h at).outcome name_ s;
  listed = λ i a p at s. secrets_listed told a (asked_at b history i a h at).outcome p s;
}
