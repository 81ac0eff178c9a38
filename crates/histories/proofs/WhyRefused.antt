-- Why a request is refused that policies grant.
use Rattle.std.proofs.Common.{◌≡◌, ◌≢◌, ◌⊎◌, ◌==◌, ◌||◌, ◌&&◌, ◌∷◌, if◌then◌else◌, ◌-◌}
use Rattle.leases.specs.Leases as leases
use Rattle.token_tree.specs.Tokens as tree
use Rattle.kv2.specs.Secrets as secrets
use Rattle.histories.specs.Words.{ℕ, [], Bool, true, false, not, nat_lt, is_some, Option, Some, None, Result, Ok, Err}
use Rattle.histories.specs.Words.{option_and_then, option_map, ⊤, codes, refl, sym, ◌∙◌, ap, inl, inr, eqb-true}
use Rattle.histories.specs.Words.{false≢true, or_left, or_right, Text, same, greatest_version, are_new, same_true}
use Rattle.histories.specs.Words.{entries, first_where, get, get-change, Broker, Mount, Role, Names, names_of, plainly}
use Rattle.histories.specs.Words.{reply, Done, ◌>>=◌, some_or, unless, first_where_is, Key, one_less, Lease, Token}
use Rattle.histories.specs.Words.{Refusal, has_lease, token_entry, metadata_of, Written, secret_name, write_over}
use Rattle.histories.specs.Words.{written, Found, asked_number, check_and_set, key_or_new, numbered, text_of}
use Rattle.histories.specs.Words.{lease_object, policy_object, role_object, lease_reply, plain_reply, SecretWrite}
use Rattle.histories.specs.Words.{TokenRenewal, act, Command, on_cubbyhole, on_issued, on_lease, on_policy, on_secret}
use Rattle.histories.specs.Words.{on_token, Outcome, Wrapped, finish, wrapped, wraps, permits, Request, operated}
use Rattle.histories.specs.Words.{request_of, step, traits, shown_lease, Place, metadata_reply, version_answered}
use Rattle.histories.specs.Words.{written_reply, auth_reply, token_reply, new_end, Denial, Field, Reason}
use Rattle.histories.specs.Words.{CubbyholeCommand, IssuedCommand, LeaseCommand, PolicyCommand, SecretCommand}
use Rattle.histories.specs.Words.{TokenCommand, Asking, clocked, spent_by, PoliciesDecide, LacksVersion, named}
use Rattle.histories.specs.Words.{AllTellWhy, Asks, FailsCheck, IsRefusedBy, LacksCheck, LacksId}
use Rattle.histories.proofs.Clients.{from_clock}
use Rattle.histories.proofs.Requests.{asked_at}

module _ (decide : PoliciesDecide) (a : Asking) (is : a.outcome ≡ step a.broker a.moment a.words a.ask)
    (command : Command) (h : Asks a command) where
  abbrev caller : Text
  caller = (h.granted).caller

  abbrev here : Broker
  here = spent_by a caller

  abbrev names : Names
  names = names_of a.words

  abbrev q : Request Command
  q = request_of a.ask

  -- where the command is refused, so is the request
  why : (own : (traits command).own names ≡ []) (free : (traits command).must_wrap ≡ false) (r : Refusal)
      → act here (Some caller) names command ≡ Err r → IsRefusedBy a r
  why own free r acted =
      let tried : Result Done Refusal → Result Wrapped Refusal =
      λ r. r >>= (λ d. Ok (wrapped permits traits act here q names command d)) in
      let asked : Bool → Result Wrapped Refusal =
      λ v. unless (not v || nat_lt 0 q.wrap_ttl) (Refusal.BadRequest Reason.WrappingRequired)
      >>= (λ w. tried (act here (Some caller) names command)) in
      let no_wrap : wraps permits traits act q command ≡ false =
      ap (λ n. nat_lt 0 n && (traits command).may_wrap) h.no_ttl in
      ap (λ (o : Outcome). o.response)
      (is ∙ decide.granted a.broker a.moment a.words a.ask caller (h.granted).own (h.granted).calls (h.granted).granted
      ∙ ap (λ (r : Result Command Refusal). finish here (Some caller) (r >>= operated here (Some caller) names a.ask))
      h.means
      ∙ ap (λ v. finish here (Some caller) (unless (are_new here.used
      (if v then names.wrapping_token ∷ names.wrapping_accessor ∷ (traits command).own names
      else (traits command).own names)) Refusal.IdentifierUsed >>= (λ u. asked (traits command).must_wrap))) no_wrap
      ∙ ap (λ ns. finish here (Some caller) (unless (are_new here.used ns) Refusal.IdentifierUsed
      >>= (λ u. asked (traits command).must_wrap))) own
      ∙ ap (λ v. finish here (Some caller) (asked v)) free
      ∙ ap (λ r. finish here (Some caller) (tried r)) acted)

  -- a token that is not there at the clock is not there after the use
  no_token : (t : Text) → get (clocked a).tokens t ≡ None → get here.tokens t ≡ None
  no_token t none =
      get-change (clocked a).tokens caller one_less t
      ∙ ap (option_map (λ z. if same t caller then one_less z else z)) none

  -- nor is a lease of an id that none has
  no_lease : (lease_id : Text) → LacksId a lease_id → leases.find here lease_id ≡ None
  no_lease lease_id lacks_ =
      by (first_where (λ t (x : Token). has_lease lease_id x) here.tokens) refl
    where
      by : (o : Option (Text × Token)) → first_where (λ t (x : Token). has_lease lease_id x) here.tokens ≡ o
          → option_and_then (λ (e : Text × Token). get e.1.leases lease_id) o ≡ None
      by None e = refl
      by (Some x) e =
          let at = first_where_is (λ t (y : Token). has_lease lease_id y) here.tokens x e in
          let was = from_clock a caller
          (record { closed = ((h.granted).calls).closed; token = ((h.granted).calls).client }) x.0 x.1 at.0 in
          ap (λ (z : Token). get z.leases lease_id) was.rest
          ∙ sym (ap (option_and_then (λ (z : Token). get z.leases lease_id)) was.there) ∙ lacks_ x.0

  -- ---- what is not there

  not_kept : (p : Place) (n : ℕ) → LacksVersion a p n → secrets.read here p.mount p.path n ≡ None
  not_kept p n lacks_ = by (get (clocked a).secrets (named p)) refl
    where
      at : (key : Key) (v : Bool) → (n == 0) ≡ v → get (clocked a).secrets (named p) ≡ Some key
          → get key.versions (if v then key.current else n) ≡ None
      at key true zero_ there = lacks_.by_current key there (eqb-true n 0 zero_)
      at key false some there = lacks_.by_number key there (λ none. false≢true (sym some ∙ ap (λ m. m == 0) none))

      by : (o : Option Key) → get (clocked a).secrets (named p) ≡ o
          → option_and_then (λ (k : Key). option_map (numbered (entries k.custom_metadata) (asked_number k.current n))
          (get k.versions (asked_number k.current n))) o ≡ None
      by None e = refl
      by (Some key) e =
          ap (option_map (numbered (entries key.custom_metadata) (asked_number key.current n))) (at key (n == 0) refl e)

  no_text : (name : Text) → name ≢ codes "root" → get (clocked a).policies name ≡ None
      → text_of (clocked a).policies name ≡ None
  no_text name apart none = by (same name (codes "root")) refl
    where
      by : (v : Bool) → same name (codes "root") ≡ v → (if v then Some [] else get (clocked a).policies name) ≡ None
      by true at = absurd (apart (same_true name (codes "root") at))
      by false _ = none

  -- ---- check-and-set

  module _ (p : Place) (asked : SecretWrite) (m : Mount) (there : get (clocked a).mounts p.mount ≡ Some m) where
    abbrev name : Text
    name = secret_name p.mount p.path

    abbrev over : Key
    over = key_or_new here.clock (get here.secrets name)

    -- a write that does not pass
    unpassed : (r : Refusal) → check_and_set (over.cas_required || m.cas_required) over.current asked.cas ≡ Err r
        → act here (Some caller) names (on_secret p (SecretCommand.Write asked)) ≡ Err r
    unpassed r fails =
        let answer : Result Written Refusal → Result Done Refusal =
        λ w. w >>= (λ w. Ok (plainly (reply (written_reply names.request here.clock w.custom_metadata w.number) None)
        w.next)) in
        ap (λ (o : Option Mount). answer (some_or Refusal.NotFound o
        >>= (λ n. write_over here n name asked.cas asked.object over))) there
        ∙ ap (λ (x : Result ⊤ Refusal). answer (x
        >>= (λ passed. unless (nat_lt over.current greatest_version) (Refusal.BadRequest
        (Reason.InvalidField Field.Version)))
        >>= (λ passed. Ok (written here m name asked.object over)))) fails

-- the renewal of the token y, which may have no end
abbrev renewal_by : Asking → Broker → TokenRenewal → Token → Bool → Result Done Refusal
renewal_by a b asked y v =
    unless v (Refusal.BadRequest Reason.TokenNotRenewable)
    >>= (λ u. Ok (plainly (reply (auth_reply (names_of a.words).request b.clock asked.token (token_entry
    (tree.with_end (new_end b.clock (token_entry y) asked.increment) y))) None)
    (tree.renew b asked.token (new_end b.clock (token_entry y) asked.increment))))

-- another number than the current one does not pass
another_fails : (v : Bool) (current n : ℕ) → n ≢ current
    → check_and_set v current (Some n) ≡ Err (Refusal.BadRequest Reason.CheckAndSetFailed)
another_fails v current n apart = by v (n == current) refl
  where
    by : (v w : Bool) → (n == current) ≡ w
        → check_and_set v current (Some n) ≡ Err (Refusal.BadRequest Reason.CheckAndSetFailed)
    by true true at = absurd (apart (eqb-true n current at))
    by false true at = absurd (apart (eqb-true n current at))
    by true false other = ap (λ w. unless w (Refusal.BadRequest Reason.CheckAndSetFailed)) other
    by false false other = ap (λ w. unless w (Refusal.BadRequest Reason.CheckAndSetFailed)) other

module _ (decide : PoliciesDecide) (a : Asking) (is : a.outcome ≡ step a.broker a.moment a.words a.ask) where
  fails_check : (p : Place) (asked : SecretWrite) → Asks a (on_secret p (SecretCommand.Write asked))
      → FailsCheck a p asked
      → IsRefusedBy a (Refusal.BadRequest Reason.CheckAndSetFailed)
  fails_check p asked h f =
      let k = on_secret p (SecretCommand.Write asked) in
      let now = (spent_by a (h.granted).caller).clock in
      let o = get (clocked a).secrets (named p) in
      why decide a is k h refl refl _
      (unpassed decide a is k h p asked f.of_mount f.in_mount _
      (ap (check_and_set ((key_or_new now o).cas_required || (f.of_mount).cas_required) (key_or_new now o).current)
      f.tells
      ∙ another_fails ((key_or_new now o).cas_required || (f.of_mount).cas_required) (key_or_new now o).current f.told
      (apart now o refl)))
    where
      apart : (now : ℕ) (o : Option Key) → get (clocked a).secrets (named p) ≡ o
          → f.told ≢ (key_or_new now o).current
      apart now None e = f.by_none e
      apart now (Some key) e = f.by_key key e

  lacks_check : (p : Place) (asked : SecretWrite) → Asks a (on_secret p (SecretCommand.Write asked))
      → LacksCheck a p asked
      → IsRefusedBy a (Refusal.BadRequest Reason.CheckAndSetRequired)
  lacks_check p asked h f =
      let k = on_secret p (SecretCommand.Write asked) in
      let now = (spent_by a (h.granted).caller).clock in
      let o = get (clocked a).secrets (named p) in
      why decide a is k h refl refl _
      (unpassed decide a is k h p asked f.of_mount f.in_mount _
      (ap (λ v. check_and_set v (key_or_new now o).current asked.cas) (wanted now f.wanted)
      ∙ ap (check_and_set true (key_or_new now o).current) f.tells_none))
    where
      wanted : (now : ℕ) → ((f.of_mount).cas_required ≡ true)
          ⊎ ((key : Key) × (get (clocked a).secrets (named p) ≡ Some key) × (key.cas_required ≡ true))
          → ((key_or_new now (get (clocked a).secrets (named p))).cas_required || (f.of_mount).cas_required) ≡ true
      wanted now (inl by_mount) = or_right _ (f.of_mount).cas_required by_mount
      wanted now (inr (key, there, own)) =
          or_left (key_or_new now (get (clocked a).secrets (named p))).cas_required (f.of_mount).cas_required
          (ap (λ (o : Option Key). (key_or_new now o).cas_required) there ∙ own)

  no_renewal : (asked : TokenRenewal) → Asks a (on_token (TokenCommand.Renew asked))
      → get (clocked a).tokens asked.token ≡ None → IsRefusedBy a (Refusal.Forbidden Denial.BadToken)
  no_renewal asked h none =
      let k = on_token (TokenCommand.Renew asked) in
      let b = spent_by a (h.granted).caller in
      why decide a is k h refl refl _
      (ap (λ (o : Option Token). some_or (Refusal.Forbidden Denial.BadToken) o
      >>= (λ y. renewal_by a b asked y (is_some y.ends))) (no_token decide a is k h asked.token none))

  ends_never : (asked : TokenRenewal) (x : Token) → Asks a (on_token (TokenCommand.Renew asked))
      → get (clocked a).tokens asked.token ≡ Some x → x.ends ≡ None
      → IsRefusedBy a (Refusal.BadRequest Reason.TokenNotRenewable)
  ends_never asked x h there none =
      let k = on_token (TokenCommand.Renew asked) in
      let c = (h.granted).caller in
      let b = spent_by a c in
      let y = if same asked.token c then one_less x else x in
      why decide a is k h refl refl _
      (ap (λ (o : Option Token). some_or (Refusal.Forbidden Denial.BadToken) o
      >>= (λ y. renewal_by a b asked y (is_some y.ends)))
      (get-change (clocked a).tokens c one_less asked.token
      ∙ ap (option_map (λ z. if same asked.token c then one_less z else z)) there)
      ∙ ap (renewal_by a b asked y) (ap (λ (o : Option ℕ). is_some o) (same_end (same asked.token c) x ∙ none)))
    where
      same_end : (v : Bool) (x : Token) → (if v then one_less x else x).ends ≡ x.ends
      same_end true x = refl
      same_end false x = refl

pub tell_why : PoliciesDecide → AllTellWhy
tell_why decide b history h = record {
  version = λ i a p n at k lacks_.
      let is = (asked_at b history i a h at).outcome in
      let c = on_secret p (SecretCommand.Read n) in
      why decide a is c k refl refl _
      (ap (λ (o : Option Found). some_or Refusal.NotFound o >>= (λ x. Ok (plainly
      (version_answered (names_of a.words).request x) (spent_by a (k.granted).caller))))
      (not_kept decide a is c k p n lacks_));
  secret = λ i a p at k none.
      let is = (asked_at b history i a h at).outcome in
      why decide a is (on_secret p SecretCommand.ShowMetadata) k refl refl _
      (ap (λ (o : Option Key). some_or Refusal.NotFound (option_map metadata_of o) >>= (λ m. Ok (plainly
      (reply (metadata_reply (names_of a.words).request m) None) (spent_by a (k.granted).caller)))) none);
  object = λ i a path at k none.
      let is = (asked_at b history i a h at).outcome in
      why decide a is (on_cubbyhole path CubbyholeCommand.Read) k refl refl _
      (ap (λ (o : Option Text). some_or Refusal.NotFound o >>= (λ kept. Ok (plainly
      (reply (plain_reply (names_of a.words).request kept) None) (spent_by a (k.granted).caller))))
      (ap (option_and_then (λ (x : Token). get x.cubbyhole path)) ((k.granted).calls).there ∙ none));
  role = λ i a p at k none.
      let is = (asked_at b history i a h at).outcome in
      why decide a is (on_issued p IssuedCommand.ShowRole) k refl refl _
      (ap (λ (o : Option Role). some_or Refusal.NotFound o >>= (λ r. Ok (plainly
      (reply (plain_reply (names_of a.words).request (role_object r.max_ttl r.ttl)) None)
      (spent_by a (k.granted).caller)))) none);
  policy = λ i a name at k apart none.
      let is = (asked_at b history i a h at).outcome in
      let c = on_policy name PolicyCommand.Show in
      why decide a is c k refl refl _
      (ap (λ (o : Option Text). some_or Refusal.NotFound o >>= (λ text. Ok (plainly
      (reply (plain_reply (names_of a.words).request (policy_object name text)) None)
      (spent_by a (k.granted).caller)))) (no_text decide a is c k name apart none));
  token = λ i a t at k none.
      let is = (asked_at b history i a h at).outcome in
      let c = on_token (TokenCommand.LookUp t) in
      let here_ = spent_by a (k.granted).caller in
      why decide a is c k refl refl _
      (ap (λ (o : Option Token). some_or (Refusal.Forbidden Denial.BadToken) o >>= (λ y. Ok (plainly
      (reply (token_reply (names_of a.words).request here_.clock t (token_entry y)) None) here_)))
      (no_token decide a is c k t none));
  renewed_token = λ i a asked at k none. no_renewal decide a (asked_at b history i a h at).outcome asked k none;
  endless = λ i a asked x at k there none.
      ends_never decide a (asked_at b history i a h at).outcome asked x k there none;
  lease = λ i a prefix lease_id at k lacks_.
      let is = (asked_at b history i a h at).outcome in
      let c = on_lease prefix (LeaseCommand.LookUp lease_id) in
      let here_ = spent_by a (k.granted).caller in
      why decide a is c k refl refl _
      (ap (λ (o : Option Lease). some_or (Refusal.BadRequest Reason.InvalidLease) o >>= (λ l. Ok (plainly
      (reply (plain_reply (names_of a.words).request
      (lease_object (shown_lease here_.clock lease_id (leases.times_of l))))
      None) here_))) (no_lease decide a is c k lease_id lacks_));
  renewed_lease = λ i a prefix asked at k lacks_.
      let is = (asked_at b history i a h at).outcome in
      let c = on_lease prefix (LeaseCommand.Renew asked) in
      let here_ = spent_by a (k.granted).caller in
      let id = asked.lease_id in
      why decide a is c k refl refl _
      (ap (λ (o : Option Lease). some_or (Refusal.BadRequest Reason.InvalidLease) o
      >>= (λ l. Ok (record {
        ends = leases.renewed_end here_.clock asked.increment l;
        next = leases.with_renewed here_ id asked.increment;
      }))
      >>= (λ (r : leases.Renewed). Ok (plainly
      (reply (lease_reply (names_of a.words).request id (r.ends - here_.clock) None) None) r.next)))
      (no_lease decide a is c k id lacks_));
  compared = λ i a p asked at k f. fails_check decide a (asked_at b history i a h at).outcome p asked k f;
  not_compared = λ i a p asked at k f. lacks_check decide a (asked_at b history i a h at).outcome p asked k f;
}
