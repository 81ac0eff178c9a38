-- What becomes of the leases of a token that a request leaves, one by one.
use Rattle.std.proofs.Common.{◌≡◌, ◌<◌, ◌+◌, ◌-◌, ◌==◌, if◌then◌else◌}
use Rattle.broker_model.specs.Words.{min-eq_left, Issued, longest, policy_changes, secret_changes, token_changes}
use Rattle.leases.specs.Leases as leases
use Rattle.leases.specs.Roles as roles
use Rattle.histories.specs.Words.{ℕ, min, Bool, true, false, not, cond, nat_lt, Ok, is_some, Option, Some, None}
use Rattle.histories.specs.Words.{option_map, option_map_or, refl, sym, ◌∙◌, ap, subst, inl, inr, arith, false≢true}
use Rattle.histories.specs.Words.{ltb-false, ltb-true, ne_eqb, not-true, same_Some, Text, same, same_true, Map, change}
use Rattle.histories.specs.Words.{get, keep, map_values, put, without, get-change, get-keep, get-put, get-without}
use Rattle.histories.specs.Words.{valued_is, Broker, Mount, Role, longest_ttl, names_of, Names, Response, nothing}
use Rattle.histories.specs.Words.{plainly, reply, Done, some_or, unless, ok_step, unless_ok, is_spent, Token, Tokens}
use Rattle.histories.specs.Words.{Lease, Reply, Part, ok_inj, is_last_use, new_lease, disabled, credential_object}
use Rattle.histories.specs.Words.{lease_reply, LeaseRenewal, Command, command_of, on_cubbyhole, on_issued, on_lease}
use Rattle.histories.specs.Words.{on_mount, on_policy, on_secret, on_token, on_wrapping, traits, may_change, stay}
use Rattle.histories.specs.Words.{cubbyhole_changes, act_on_issued, issued_changes, lease_changes, mount_changes}
use Rattle.histories.specs.Words.{without_kept, Place, token_fate, wrapping_changes, Status, Refusal, Reason, Kind}
use Rattle.histories.specs.Words.{CubbyholeCommand, IssuedCommand, LeaseCommand, MountCommand, PolicyCommand}
use Rattle.histories.specs.Words.{SecretCommand, TokenCommand, WrappingCommand, Asking, clocked, spent_by, EndsLease}
use Rattle.histories.specs.Words.{IsIssuedTo, IsOfRole, IsRenewedLease, LeaseBecomes, RenewsLease, IsClient}
use Rattle.histories.proofs.Clients.{CarriesOut, from_clock}
use Rattle.histories.proofs.OrderCases.{some_ok}

-- ---- parts that change neither

abbrev pub Neither : Option Part → Type 0
Neither changes = (may_change changes Kind.Cubby ≡ false) × (may_change changes Kind.Lease ≡ false)

pub tokens_neither : (k : TokenCommand) → token_fate k ≡ stay → Neither (token_changes k)
tokens_neither (TokenCommand.Revoke t) e = absurd (cc)
tokens_neither (TokenCommand.RevokeOrphan t) e = absurd (cc)
tokens_neither (TokenCommand.RevokeAccessor accessor) e = absurd (cc)
tokens_neither TokenCommand.RevokeSelf e = absurd (cc)
tokens_neither _ e = (refl, refl)

pub secrets_neither : (k : SecretCommand) → Neither (secret_changes k)
secrets_neither SecretCommand.ShowSettings = (refl, refl)
secrets_neither _ = (refl, refl)

pub policies_neither : (k : PolicyCommand) → Neither (policy_changes k)
policies_neither PolicyCommand.List = (refl, refl)
policies_neither _ = (refl, refl)

pub responses_neither : (k : WrappingCommand) → Neither (wrapping_changes k)
responses_neither (WrappingCommand.Wrap text) = (refl, refl)
responses_neither _ = (refl, refl)

-- those that change no lease
cubbyholes_no_lease : (k : CubbyholeCommand) → may_change (cubbyhole_changes k) Kind.Lease ≡ false
cubbyholes_no_lease CubbyholeCommand.Read = refl
cubbyholes_no_lease _ = refl

-- ---- one token

-- what is taken out is none
without_it : {X : Type 0} (v : Bool) (o : Option X) → cond v None o ≡ (if v then None else o)
without_it true o = refl
without_it false o = refl

not_kept : {X : Type 0} (v : Bool) (o : Option X) → cond (not v) o None ≡ (if v then None else o)
not_kept true o = refl
not_kept false o = refl

-- more than one use, before one was spent that was not the last
more_than_one : (n : ℕ) → (n - 1 == 0) ≡ false → 1 < n
more_than_one n e = by (nat_lt 1 n) refl
  where
    by : (v : Bool) → nat_lt 1 n ≡ v → 1 < n
    by true lt = ltb-true 1 n lt
    by false ge =
        let none : n - 1 ≡ 0 = omega (arith, ltb-false 1 n ge) in
        absurd (false≢true (sym e ∙ ap (λ m. m == 0) none))

-- ---- the times of a lease

-- a lease that is made now is one of its role
of_role : (now : ℕ) (r : Role) (credential : Text) → IsOfRole now r (new_lease now r credential)
of_role now r credential = record {
  issued = refl;
  own_longest = λ some. ap (λ v. min (if v then longest_ttl else r.max_ttl) longest_ttl) (ne_eqb r.max_ttl 0 some);
  longest = λ none. ap (λ n. min (if n == 0 then longest_ttl else n) longest_ttl) none;
  own_ttl = λ some. ap (λ v. min (if v then longest r else r.ttl) (longest r)) (ne_eqb r.ttl 0 some);
  whole_ttl = λ none. ap (λ n. min (if n == 0 then longest r else n) (longest r)) none
      ∙ min-eq_left (omega (arith));
  ends = refl;
  renewed = refl;
}

-- and one that is renewed has its new end
pub renewed_so : (a : Asking) (lease_id : Text) (r : RenewsLease a lease_id) (k : Lease)
    → IsRenewedLease a lease_id (Some k) (Some (leases.renewed (clocked a).clock r.asked.increment k))
renewed_so a lease_id r k =
    let now = (clocked a).clock in
    let last = k.issued + k.max_ttl in
    record {
      renews = r;
      earlier = k;
      there = refl;
      later = leases.renewed now r.asked.increment k;
      is = refl;
      rest = refl;
      renewed = refl;
      asked = λ some. ap (λ v. min (now + (if v then k.ttl else r.asked.increment)) last)
          (ne_eqb r.asked.increment 0 some);
      not_asked = λ none. ap (λ n. min (now + (if n == 0 then k.ttl else n)) last) none;
    }

-- ---- what is issued

module _ (a : Asking) (c : Text) (p : Place) (d : Done) where
  abbrev start : Broker
  start = spent_by a c

  abbrev names : Names
  names = names_of a.words

  -- the lease that the command made for the caller c, whose last use this is not
  pub record DidIssue : Type 0 where
    pub made : Issued
    pub answered : d.answered
        ≡ reply (lease_reply names.request made.lease_id made.lease.ttl (Some (credential_object names.credential)))
        None
    pub next : d.next.tokens ≡ (leases.issue start c made.lease_id made.lease).tokens
    pub lasts : is_last_use start c ≡ false
    pub role : Role
    pub is_role : roles.role start p.mount p.path ≡ Some role
    pub times : IsOfRole start.clock role made.lease
    pub id : made.lease_id ≡ roles.lease_id p.mount p.path names.lease
    pub credential : made.lease.credential ≡ names.credential

  pub did_issue : act_on_issued start c names p IssuedCommand.Issue ≡ Ok d → DidIssue
  did_issue acted =
      let i = ok_step (roles.creds start c p.mount p.path names.lease names.credential) _ d acted in
      let new = ok_step (roles.issued (roles.role start p.mount p.path)
      (is_last_use start c) start.clock p.mount p.path names.lease names.credential) _ i.0 i.1 in
      let r = ok_step (some_or Refusal.NotFound (roles.role start p.mount p.path)) _ new.0 new.1 in
      let lasts = ok_step (unless (not (is_last_use start c)) (Refusal.BadRequest Reason.LastUseTakesLease)) _ new.0
      r.2 in
      let is_new = ok_inj new.2 in
      let is_lease = ok_inj lasts.2 in
      record {
        made = i.0;
        answered = ap (λ (z : Done). z.answered) (sym (ok_inj i.2));
        next = ap (λ (z : Done). z.next.tokens) (sym (ok_inj i.2))
            ∙ ap (λ (z : Issued). z.next.tokens) (sym is_new)
            ∙ (λ j. (leases.issue start c (is_new j).lease_id (is_new j).lease).tokens);
        lasts = not-true _ (unless_ok _ _ lasts.0 lasts.1);
        role = r.0;
        is_role = some_ok Refusal.NotFound (roles.role start p.mount p.path) r.1;
        times = subst (IsOfRole start.clock r.0)
            (ap (λ (z : roles.IssuedLease). z.lease) is_lease ∙ ap (λ (z : Issued). z.lease) is_new)
            (of_role start.clock r.0 names.credential);
        id = ap (λ (z : Issued). z.lease_id) (sym is_new) ∙ ap (λ (z : roles.IssuedLease). z.lease_id) (sym is_lease);
        credential = ap (λ (z : Issued). z.lease.credential) (sym is_new)
            ∙ ap (λ (z : roles.IssuedLease). z.lease.credential) (sym is_lease);
      }

  pub issued_to : (i : DidIssue) → IsClient a c
      → command_of (clocked a).mounts a.ask ≡ Ok (on_issued p IssuedCommand.Issue)
      → a.outcome.response.status ≡ Status.Success → (x : Token) → get start.tokens c ≡ Some x
      → IsIssuedTo a c i.made.lease_id i.made.lease
  issued_to i client means success x there =
      let from = from_clock a c client c x there in
      record {
        client = client;
        place = p;
        means = means;
        answered = success;
        own = from.earlier;
        there = from.there;
        lasting = λ n few. more_than_one n
            (sym (ap (λ (o : Option ℕ). option_map_or (λ m. m == 0) o false)
            (from.uses client ∙ ap (option_map (λ m. m - 1)) few))
            ∙ sym (ap (λ (o : Option Token). option_map_or is_spent o false) there) ∙ i.lasts);
        role = i.role;
        is_role = i.is_role;
        times = i.times;
        id = i.id;
        credential = i.credential;
      }

  -- of the role at this place
  pub issued_at : (i : DidIssue) (client : IsClient a c)
      (means : command_of (clocked a).mounts a.ask ≡ Ok (on_issued p IssuedCommand.Issue))
      (success : a.outcome.response.status ≡ Status.Success) (x : Token) (there : get start.tokens c ≡ Some x)
      → (issued_to i client means success x there).place ≡ p
  unfolding issued_to
  issued_at i client means success x there = refl

module _ (a : Asking) (c : Text) (q : Text) (x y : Token) (was : get (spent_by a c).tokens q ≡ Some x) (d : Done)
    (is : get d.next.tokens q ≡ Some y) where
  abbrev b : Broker
  b = spent_by a c

  pub edited_is : (f : Text → Token → Token) → d.next.tokens ≡ map_values f b.tokens → y ≡ f q x
  edited_is f e =
      let v = valued_is f b.tokens q y (ap (λ (m : Tokens). get m q) (sym e) ∙ is) in
      v.2 ∙ ap (f q) (same_Some _ _ (sym v.1 ∙ was))

  module _ (lease_id : Text) where
    abbrev Becomes : Option Lease → Type 0
    Becomes new = LeaseBecomes a q lease_id (get x.leases lease_id) new

    -- where each token's leases are edited
    leases_edited : (edit : Text → Map Lease → Map Lease)
        → d.next.tokens ≡ (leases.edited b edit).tokens → Becomes (get (edit q x.leases) lease_id)
        → Becomes (get y.leases lease_id)
    leases_edited edit next becomes =
        subst Becomes (ap (λ (z : Token). get z.leases lease_id)
        (sym (edited_is (λ t z. leases.with_leases (edit t z.leases) z) next))) becomes

    -- a lease that was revoked is none, and the others are as they were
    taken_out : (command : Command) → CarriesOut a c command d → d.answered ≡ nothing → (v : Bool)
        → (v ≡ true → EndsLease (clocked a) lease_id command) → Becomes (if v then None else get x.leases lease_id)
    taken_out command s answered true ends = inr (inr (inr (
      refl,
      record {
        command = command;
        means = s.means;
        ends = ends refl;
        answered = ap (λ (r : Response). r.status) (s.is_204 answered);
      },
    )))
    taken_out command s answered false ends = inl refl

    lease_renewed : (prefix : Text) (asked : LeaseRenewal) → CarriesOut a c (on_lease prefix (LeaseCommand.Renew asked))
        d
        → Becomes (get y.leases lease_id)
    lease_renewed prefix asked s =
        let f = leases.renewed b.clock asked.increment in
        let r = ok_step (leases.renew b asked.lease_id asked.increment) _ d s.acted in
        let l = ok_step (leases.lookup b asked.lease_id) _ r.0 r.1 in
        leases_edited (λ t m. change m asked.lease_id f)
        (ap (λ (z : Done). z.next.tokens) (sym (ok_inj r.2))
        ∙ ap (λ (z : leases.Renewed). z.next.tokens) (sym (ok_inj l.2)))
        (subst Becomes (sym (get-change x.leases asked.lease_id f lease_id))
        (by _ (ap (λ (z : Done). z.answered) (sym (ok_inj r.2))) (same lease_id asked.lease_id) refl
        (get x.leases lease_id)))
      where
        by : (r : Reply) → d.answered ≡ reply r None → (v : Bool) → same lease_id asked.lease_id ≡ v
            → (o : Option Lease)
            → LeaseBecomes a q lease_id o
            (option_map (λ l. if v then leases.renewed b.clock asked.increment l else l) o)
        by r answered v at None = inl refl
        by r answered false at (Some k) = inl refl
        by r answered true at (Some k) = inr (inl (renewed_so a lease_id (record {
          prefix = prefix;
          asked = asked;
          means = s.means;
          names = sym (same_true lease_id asked.lease_id at);
          answered = s.is_200 r None answered;
        }) k))

    at_lease : (prefix : Text) (k : LeaseCommand) → CarriesOut a c (on_lease prefix k) d
        → may_change (lease_changes k) Kind.Lease ≡ true → Becomes (get y.leases lease_id)
    at_lease prefix (LeaseCommand.LookUp id) s may = absurd (false≢true may)
    at_lease prefix (LeaseCommand.Renew asked) s may = lease_renewed prefix asked s
    at_lease prefix (LeaseCommand.Revoke id) s may =
        leases_edited (λ t m. without m id) (ap (λ (z : Done). z.next.tokens) (sym (ok_inj s.acted)))
        (subst Becomes (sym (get-without x.leases id lease_id ∙ without_it (same lease_id id) (get x.leases lease_id)))
        (taken_out (on_lease prefix (LeaseCommand.Revoke id)) s (ap (λ (z : Done). z.answered) (sym (ok_inj s.acted)))
        (same lease_id id) (λ at. sym (same_true lease_id id at))))
    at_lease prefix LeaseCommand.RevokeUnder s may =
        leases_edited (λ t m. keep (λ u. not (leases.is_under prefix u)) m)
        (ap (λ (z : Done). z.next.tokens) (sym (ok_inj s.acted)))
        (subst Becomes (sym (get-keep (λ u. not (leases.is_under prefix u)) x.leases lease_id
        ∙ not_kept (leases.is_under prefix lease_id) (get x.leases lease_id)))
        (taken_out (on_lease prefix LeaseCommand.RevokeUnder) s (ap (λ (z : Done). z.answered) (sym (ok_inj s.acted)))
        (leases.is_under prefix lease_id) (λ under. under)))

    -- what is below the name of a mount goes with it, if it was there
    disabled_left : (name : Text) → CarriesOut a c (on_mount name MountCommand.Disable) d
        → Becomes (get y.leases lease_id)
    disabled_left name s =
        let next = ok_step (disabled b.mounts name) _ d s.acted in
        by next.0 (is_some (get b.mounts name)) refl (ok_inj next.2)
      where
        by : (mounts : Map Mount) (v : Bool) → is_some (get b.mounts name) ≡ v
            → plainly nothing (if v then without_kept (record b { mounts = mounts }) name else b) ≡ d
            → Becomes (get y.leases lease_id)
        by mounts true there e =
            leases_edited (λ t m. keep (λ u. not (leases.is_under name u)) m) (ap (λ (z : Done). z.next.tokens) (sym e))
            (subst Becomes (sym (get-keep (λ u. not (leases.is_under name u)) x.leases lease_id
            ∙ not_kept (leases.is_under name lease_id) (get x.leases lease_id)))
            (taken_out (on_mount name MountCommand.Disable) s (ap (λ (z : Done). z.answered) (sym e))
            (leases.is_under name lease_id)
            (λ under. (under, λ none. false≢true (sym (ap (λ (o : Option Mount). is_some o) none) ∙ there)))))
        by mounts false none e =
            inl (ap (λ (z : Token). get z.leases lease_id)
            (same_Some _ _ (sym (ap (λ (z : Done). get z.next.tokens q) e ∙ is) ∙ was)))

    at_mount : (name : Text) (k : MountCommand) → CarriesOut a c (on_mount name k) d
        → may_change (mount_changes k) Kind.Lease ≡ true → Becomes (get y.leases lease_id)
    at_mount name MountCommand.Disable s may = disabled_left name s
    at_mount name _ s may = absurd (false≢true may)

    -- what is issued is the caller's, whose last use this is not
    issued_left : (p : Place) → CarriesOut a c (on_issued p IssuedCommand.Issue) d
        → Becomes (get y.leases lease_id)
    issued_left p s =
        let i = did_issue a c p d s.acted in
        let id = i.made.lease_id in
        let l = i.made.lease in
        let issued : q ≡ c → IsIssuedTo a q id l = λ at. subst (λ u. IsIssuedTo a u id l) (sym at)
        (issued_to a c p d i s.client s.means (s.is_200 _ _ i.answered) x
        (subst (λ u. get b.tokens u ≡ Some x) at was)) in
        leases_edited (λ u m. if same u c then put m id l else m) i.next
        (elim (same q c) as (λ v. same q c ≡ v → Becomes (get (if v then put x.leases id l else x.leases) lease_id)) [
          | true ↦ λ at. subst Becomes (sym (get-put x.leases id l lease_id))
              (elim (same lease_id id) as
              (λ v. same lease_id id ≡ v → Becomes (cond v (Some l) (get x.leases lease_id))) [
                | true ↦ λ is_id. inr (inr (inl (
                  l,
                  refl,
                  subst (λ u. IsIssuedTo a q u l) (sym (same_true lease_id id is_id)) (issued (same_true q c at)),
                )))
                | false ↦ λ _. inl refl
              ] refl)
          | false ↦ λ _. inl refl
        ] refl)

    at_issued : (p : Place) (k : IssuedCommand) → CarriesOut a c (on_issued p k) d
        → may_change (issued_changes k) Kind.Lease ≡ true → Becomes (get y.leases lease_id)
    at_issued p IssuedCommand.Issue s may = issued_left p s
    at_issued p _ s may = absurd (false≢true may)

    -- what may change leases renews, revokes or issues
    pub leases_left : (command : Command) → CarriesOut a c command d
        → (traits command).fate ≡ stay → may_change (traits command).changes Kind.Lease ≡ true
        → Becomes (get y.leases lease_id)
    leases_left (on_lease prefix k) s fate may = at_lease prefix k s may
    leases_left (on_mount name k) s fate may = at_mount name k s may
    leases_left (on_issued p k) s fate may = at_issued p k s may
    leases_left (on_cubbyhole p k) s fate may = absurd (false≢true (sym (cubbyholes_no_lease k) ∙ may))
    leases_left (on_token k) s fate may = absurd (false≢true (sym (tokens_neither k fate).1 ∙ may))
    leases_left (on_secret p k) s fate may = absurd (false≢true (sym (secrets_neither k).1 ∙ may))
    leases_left (on_policy name k) s fate may = absurd (false≢true (sym (policies_neither k).1 ∙ may))
    leases_left (on_wrapping k) s fate may = absurd (false≢true (sym (responses_neither k).1 ∙ may))
