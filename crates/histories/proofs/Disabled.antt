-- A mount that is disabled leaves nothing, and what is of other mounts stays.
use Rattle.std.proofs.Common.{◌≡◌, ◌≢◌, if◌then◌else◌, ◌⊎◌}
use Rattle.leases.specs.Leases as leases
use Rattle.kv2.specs.Secrets as secrets
use Rattle.leases.specs.Roles as roles
use Rattle.histories.specs.Words.{true, false, not, cond, is_some, Option, Some, None, Ok, Bool, ⊤, option_and_then}
use Rattle.histories.specs.Words.{refl, sym, ◌∙◌, ap, subst, inl, inr, arith, Text, same, same_self, same_true, Map}
use Rattle.histories.specs.Words.{get, keep, without, get-change, get-keep, get-without, valued_is, Broker, Mount}
use Rattle.histories.specs.Words.{Waiting, names_of, Done, found_or_not, mapped, lease_of, no_ok, ok_step, one_less}
use Rattle.histories.specs.Words.{spend, status_code, Token, Tokens, ok_inj, disabled, may_go, act, Command, on_mount}
use Rattle.histories.specs.Words.{OperationsDoAsTold, Outcome, Wrapped, counted, wrapped, permits, request_of, step}
use Rattle.histories.specs.Words.{traits, without_kept, MountCommand, AllDisabledMountsGo, Disables, KeepsOthers}
use Rattle.histories.specs.Words.{LeavesNothing, Asking, clocked, is_below, nat_lt, max, option_map_or, false≢true}
use Rattle.histories.specs.Words.{IsRefused, without_is, Names, nothing, kept_get, Lease, alive_is, command_of}
use Rattle.histories.specs.Words.{on_lease, chained, response_to, unwrapped, no_content, act_on_leases, act_on_mounts}
use Rattle.histories.specs.Words.{Status, LeaseCommand, unwrapped_body, AllLeasesStayRevoked, EndsLease, NamesBelow}
use Rattle.histories.specs.Words.{NamesMount}
use Rattle.histories.proofs.Clients.{end_is}
use Rattle.histories.proofs.Order.{spent, end_spent_same, wrapped_cases, asked_at, means_at_clock, Served, served}
use Rattle.histories.proofs.Order.{history_keeps, spent_mounts, nothing_is_no_reply, refused_or_served}
use Rattle.histories.proofs.Lasting.{asked_keeps, left_since}
use Rattle.histories.proofs.LeasesGone.{stays_gone}

-- ---- a lease that a 204 revokes does not come back

-- no token of these has a lease of the id
abbrev Lacks : Tokens → Text → Type 0
Lacks ts id = (q : Text) (y : Token) (l : Lease) → get ts q ≡ Some y → get y.leases id ≡ Some l → ⊥

-- a 204, after which no token has such a lease
abbrev Left : Done → Text → Type 0
Left d id = (d.answered ≡ nothing) × Lacks d.next.tokens id

-- an edit of all leases that leaves none of the id
edited_lacks : (b : Broker) (edit : Text → Map Lease → Map Lease) (id : Text)
    → ((t : Text) (m : Map Lease) (l : Lease) → get (edit t m) id ≡ Some l → ⊥) → Lacks (leases.edited b edit).tokens id
edited_lacks b edit id none q y l there has =
    let v = valued_is (λ t (x : Token). leases.with_leases (edit t x.leases) x) b.tokens q y there in
    none q v.0.leases l (ap (λ (z : Token). get z.leases id) (sym v.2) ∙ has)

one_lacks : (b : Broker) (named id : Text) → named ≡ id → Lacks (leases.revoke b named).tokens id
one_lacks b named id is = edited_lacks b (λ t m. without m named) id (λ t m l e.
    false≢true (sym (without_is m named id l e).0 ∙ ap (λ n. same n named) (sym is) ∙ same_self named))

under_lacks : (b : Broker) (prefix id : Text) → is_below prefix id ≡ true
    → Lacks (leases.revoke_under b prefix).tokens id
under_lacks b prefix id below = edited_lacks b (λ t m. keep (λ i. not (leases.is_under prefix i)) m) id (λ t m l e.
    false≢true (sym (ap not below) ∙ (kept_get (λ i. not (leases.is_under prefix i)) m id l e).1))

leases_lack : (b : Broker) (names : Names) (prefix id : Text) (command : LeaseCommand) (d : Done)
    → act_on_leases b names prefix command ≡ Ok d
    → NamesBelow id prefix command → Left d id
leases_lack b names prefix id (LeaseCommand.Revoke i) d e named =
    subst (λ (z : Done). Left z id) (ok_inj e) (refl, one_lacks b i id named)
leases_lack b names prefix id LeaseCommand.RevokeUnder d e named =
    subst (λ (z : Done). Left z id) (ok_inj e) (refl, under_lacks b prefix id named)
leases_lack b names prefix id _ d e named = absurd named

mounts_lack : (b : Broker) (names : Names) (name id : Text) (command : MountCommand) (d : Done)
    → act_on_mounts b names name command ≡ Ok d
    → NamesMount b id name command → Left d id
mounts_lack b names name id MountCommand.Disable d e named =
    let next = ok_step (disabled b.mounts name) _ d e in
    subst (λ (z : Done). Left z id) (ok_inj next.2) (refl, by next.0 (get b.mounts name) named.1)
  where
    by : (next : Map Mount) (o : Option Mount) → o ≢ None
        → Lacks (if is_some o then without_kept (record b { mounts = next }) name else b).tokens id
    by next None some = absurd (some refl)
    by next (Some m) some =
        under_lacks (roles.drop_roles (secrets.drop_mount (record b { mounts = next }) name) name) name id named.0
mounts_lack b names name id _ d e named = absurd named

-- what a command answers and leaves that ends the lease of the id
operations_lack : (b : Broker) (who : Option Text) (names : Names) (id : Text) (command : Command) (d : Done)
    → act b who names command ≡ Ok d → EndsLease b id command → Left d id
operations_lack b None names id (on_lease prefix command) d e ends = no_ok e
operations_lack b None names id (on_mount name command) d e ends = no_ok e
operations_lack b (Some c) names id (on_lease prefix command) d e ends = leases_lack b names prefix id command d e ends
operations_lack b (Some c) names id (on_mount name command) d e ends = mounts_lack b names name id command d e ends
operations_lack b who names id _ d e ends = absurd ends

-- the same of brokers with the same mounts
ends_same : (b c : Broker) (id : Text) (command : Command) → b.mounts ≡ c.mounts → EndsLease b id command
    → EndsLease c id command
ends_same b c id (on_mount name MountCommand.Disable) is ends =
    (ends.0, subst (λ (m : Map Mount). get m name ≢ None) is ends.1)
ends_same b c id (on_lease prefix command) is ends = ends
ends_same b c id _ is ends = absurd ends

module _ (a : Asking) (is : a.outcome ≡ step a.broker a.moment a.words a.ask) (lease_id : Text) (command : Command)
    (means : command_of (clocked a).mounts a.ask ≡ Ok command) (ends : EndsLease (clocked a) lease_id command) where
  -- a request that was served ended it
  left_by : (s : Served a) → Left s.done lease_id
  left_by s =
      let start = spent (clocked a) s.caller in
      let is_command : command ≡ s.command = ok_inj (sym means ∙ means_at_clock a s.caller s.command s.means) in
      operations_lack start s.caller (names_of a.words) lease_id s.command s.done s.acted
      (ends_same (clocked a) start lease_id s.command (sym (spent_mounts (clocked a) s.caller))
      (subst (EndsLease (clocked a) lease_id) is_command ends))

  -- and its reply was not wrapped, since it has none
  not_wrapped : (s : Served a)
      → wrapped permits traits act (spent (clocked a) s.caller) (request_of a.ask) (names_of a.words) s.command s.done
      ≡ unwrapped s.done
  not_wrapped s =
      elim (wrapped_cases permits traits act (spent (clocked a) s.caller) (request_of a.ask)
      (names_of a.words) s.command s.done) [
        | inl plain ↦ plain
        | inr kept ↦ absurd (nothing_is_no_reply (left_by s).0 kept.3)
      ]

  answers : (a.outcome.response ≡ no_content) ⊎ IsRefused a.outcome.response
  answers = elim (refused_or_served a is) [
    | inl refused ↦ inr refused
    | inr s ↦ inl (ap (λ (x : Outcome). x.response) s.outcome
        ∙ ap (λ (x : Wrapped). response_to x.done.answered) (not_wrapped s) ∙ ap response_to (left_by s).0)
  ]

  none_left : a.outcome.response.status ≡ Status.NoContent → (q : Text) → lease_of a.outcome.next q lease_id ≡ None
  none_left empty q = elim (found_or_not (lease_of a.outcome.next q lease_id)) [
    | inl none ↦ none
    | inr l ↦
        let s = served a is (omega (arith, ap status_code empty)) in
        let y = chained (λ (x : Token). get x.leases lease_id) (get a.outcome.next.tokens q) l.0 l.1 in
        absurd ((left_by s).1 q y.0 l.0
        (ap (λ (x : Wrapped). get x.done.next.tokens q) (sym (not_wrapped s))
        ∙ end_is (counted (wrapped permits traits act (spent (clocked a) s.caller) (request_of a.ask)
        (names_of a.words) s.command s.done).done)
        s.caller q y.0 (ap (λ (o : Outcome). get o.next.tokens q) (sym s.outcome) ∙ y.1)) y.2)
  ]

-- a lease at the clock was one before it
was_before : (a : Asking) (q lease_id : Text) (l : Lease) → lease_of (clocked a) q lease_id ≡ Some l
    → lease_of a.broker q lease_id ≡ Some l
was_before a q lease_id l is =
    let now = max a.broker.clock a.moment in
    let y = chained (λ (x : Token). get x.leases lease_id) (get (clocked a).tokens q) l is in
    let x = alive_is now a.broker.tokens q y.0 y.1 in
    let there =
    kept_get (λ i. option_map_or (λ (m : Lease). nat_lt now m.ends) (get x.0.leases i) false) x.0.leases lease_id l
    (ap (λ (z : Token). get z.leases lease_id) (sym x.3) ∙ y.2) in
    ap (option_and_then (λ (z : Token). get z.leases lease_id)) x.1 ∙ there.0

pub leases_stay_revoked : OperationsDoAsTold → AllLeasesStayRevoked
leases_stay_revoked told b history h =
    let keep_all = history_keeps told b history h in
    record {
      answered = λ i a lease_id command at means ends. answers a
          (asked_at b history i a h at).outcome lease_id command means ends;
      gone = λ i a q lease_id at r. none_left a
          (asked_at b history i a h at).outcome lease_id r.command r.means r.ends r.answered q;
      lasts = λ i j a x q lease_id l one r is other le.
          let asked = asked_at b history i a h one in
          stays_gone a asked.sound (asked_keeps unwrapped_body b history i a keep_all one) q lease_id l
          (was_before a q lease_id l is)
          (none_left a asked.outcome lease_id r.command r.means r.ends r.answered q) x.outcome.next
          (left_since unwrapped_body b history i j a x keep_all one other le);
    }

-- what a served request leaves of a map that holds no tokens, responses or identifiers
module _ {X : Type 0} (f : Broker → X) (by_tokens : (b : Broker) (ts : Tokens) → f (record b { tokens = ts }) ≡ f b)
    (by_used : (b : Broker) (us : Map ⊤) → f (record b { used = us }) ≡ f b)
    (by_waiting : (b : Broker) (ws : Map Waiting) → f (record b { waiting = ws }) ≡ f b) where
  pub left : (a : Asking) (s : Served a) → f a.outcome.next ≡ f (s.done).next
  left a s =
      let start = spent (clocked a) s.caller in
      let v = wrapped permits traits act start (request_of a.ask) (names_of a.words) s.command s.done in
      ap (λ (o : Outcome). f o.next) s.outcome ∙ end_spent_same f (λ b t. by_tokens b _) (counted v.done) s.caller
      ∙ by_used v.done.next _
      ∙ elim (wrapped_cases permits traits act start (request_of a.ask) (names_of a.words) s.command s.done) [
        | inl plain ↦ ap (λ (x : Wrapped). f x.done.next) plain
        | inr kept ↦ ap (λ (x : Wrapped). f x.done.next) kept.4 ∙ by_waiting s.done.next _
      ]

-- and of the tokens: each was left by the operation
pub token_left : (a : Asking) (s : Served a) (q : Text) (y : Token) → get a.outcome.next.tokens q ≡ Some y
    → get (s.done).next.tokens q ≡ Some y
token_left a s q y e =
    let start = spent (clocked a) s.caller in
    let v = wrapped permits traits act start (request_of a.ask) (names_of a.words) s.command s.done in
    let same_tokens : v.done.next.tokens ≡ (s.done).next.tokens =
    elim (wrapped_cases permits traits act start (request_of a.ask) (names_of a.words) s.command s.done) [
      | inl plain ↦ ap (λ (x : Wrapped). x.done.next.tokens) plain
      | inr kept ↦ ap (λ (x : Wrapped). x.done.next.tokens) kept.4
    ] in
    ap (λ (m : Tokens). get m q) (sym same_tokens)
    ∙ end_is (counted v.done) s.caller q y (ap (λ (o : Outcome). get o.next.tokens q) (sym s.outcome) ∙ e)

-- what is below the name is gone, and the rest is there
module _ {V : Type 0} (name : Text) where
  without_those : (m all : Map V) → m ≡ keep (λ q. not (is_below name q)) all → (q : Text)
      → get m q ≡ cond (not (is_below name q)) (get all q) None
  without_those m all is q = ap (λ (x : Map V). get x q) is ∙ get-keep (λ q. not (is_below name q)) all q

module _ (a : Asking) (is : a.outcome ≡ step a.broker a.moment a.words a.ask) (name : Text) (d : Disables a name) where
  abbrev now : Broker
  now = clocked a

  it : Served a
  it = served a is (omega (arith, ap status_code d.answered))

  acted : act (spent now it.caller) it.caller (names_of a.words) (on_mount name MountCommand.Disable) ≡ Ok it.done
  acted =
      let is_command : it.command ≡ on_mount name MountCommand.Disable =
      ok_inj (sym (means_at_clock a it.caller it.command it.means) ∙ d.means) in
      subst (λ (x : Command). act (spent now it.caller) it.caller (names_of a.words) x ≡ Ok it.done) is_command it.acted

  -- the broker without the mount, and what was kept there
  abbrev bare : Text → Broker
  bare c = without_kept (record (spend now c) { mounts = without now.mounts name }) name

  done_is : (caller : Option Text) → act (spent now caller) caller (names_of a.words)
      (on_mount name MountCommand.Disable)
      ≡ Ok it.done
      → (c : Text) × (it.done.next ≡ bare c)
  done_is None e = no_ok e
  done_is (Some c) e =
      let next = ok_step (disabled now.mounts name) _ it.done e in
      let free = ok_step (may_go name) _ next.0 next.1 in (
        c,
        ap (λ (z : Done). z.next) (sym (ok_inj next.2)) ∙ by next.0 (get now.mounts name) d.there
            ∙ ap (λ (m : Map Mount). without_kept (record (spend now c) { mounts = m }) name) (sym (ok_inj free.2)),
      )
    where
      by : (next : Map Mount) (o : Option Mount) → o ≢ None
          → (if is_some o then without_kept (record (spend now c) { mounts = next }) name else spend now c)
          ≡ without_kept (record (spend now c) { mounts = next }) name
      by next None some = absurd (some refl)
      by next (Some m) some = refl

  module _ (c : Text) (left_it : it.done.next ≡ bare c) where
    mounts_are : a.outcome.next.mounts ≡ without now.mounts name
    mounts_are = left (λ (b : Broker). b.mounts) (λ _ _. refl) (λ _ _. refl) (λ _ _. refl) a it
        ∙ ap (λ (b : Broker). b.mounts) left_it

    secrets_are : a.outcome.next.secrets ≡ keep (λ q. not (is_below name q)) now.secrets
    secrets_are = left (λ (b : Broker). b.secrets) (λ _ _. refl) (λ _ _. refl) (λ _ _. refl) a it
        ∙ ap (λ (b : Broker). b.secrets) left_it

    roles_are : a.outcome.next.roles ≡ keep (λ q. not (is_below name q)) now.roles
    roles_are = left (λ (b : Broker). b.roles) (λ _ _. refl) (λ _ _. refl) (λ _ _. refl) a it
        ∙ ap (λ (b : Broker). b.roles) left_it

    -- the leases of a token that is left are those of its clock that are not below the mount
    leases_are : (t : Text) (y : Token) → get a.outcome.next.tokens t ≡ Some y
        → (x : Token) × (get now.tokens t ≡ Some x) × (y.leases ≡ keep (λ q. not (is_below name q)) x.leases)
    leases_are t y e =
        let there = ap (λ (b : Broker). get b.tokens t) (sym left_it) ∙ token_left a it t y e in
        let w = valued_is (λ u (x : Token). leases.with_leases (keep (λ q. not (leases.is_under name q)) x.leases) x)
        (spend now c).tokens t y there in
        let x = mapped (λ (x : Token). if same t c then one_less x else x) (get now.tokens t) w.0
        (sym (get-change now.tokens c one_less t) ∙ w.1) in (
          x.0,
          x.1,
          ap (λ (z : Token). z.leases) w.2
              ∙ ap (λ (z : Token). keep (λ q. not (is_below name q)) z.leases) x.2
              ∙ ap (keep (λ q. not (is_below name q))) (spent_leases (same t c) x.0),
        )
      where
        spent_leases : (v : Bool) (x : Token) → (if v then one_less x else x).leases ≡ x.leases
        spent_leases true x = refl
        spent_leases false x = refl

    others : KeepsOthers now a.outcome.next name
    others = record {
      mounts = λ q other. ap (λ (m : Map Mount). get m q) mounts_are ∙ get-without now.mounts name q
          ∙ elim (same q name) as (λ v. same q name ≡ v → cond v None (get now.mounts q) ≡ get now.mounts q) [
            | true ↦ λ at. absurd (other (same_true q name at))
            | false ↦ λ _. refl
          ] refl;
      secrets = λ q other. without_those name a.outcome.next.secrets now.secrets secrets_are q
          ∙ ap (λ v. cond (not v) (get now.secrets q) None) other;
      roles = λ q other. without_those name a.outcome.next.roles now.roles roles_are q
          ∙ ap (λ v. cond (not v) (get now.roles q) None) other;
      leases = λ t q other. elim (found_or_not (get a.outcome.next.tokens t)) [
        | inl none ↦ inr none
        | inr y ↦
            let x = leases_are t y.0 y.1 in
            inl (ap (option_and_then (λ (z : Token). get z.leases q)) y.1
            ∙ without_those name (y.0).leases (x.0).leases x.2 q
            ∙ ap (λ v. cond (not v) (get (x.0).leases q) None) other
            ∙ ap (option_and_then (λ (z : Token). get z.leases q)) (sym x.1))
      ];
    }

    nothing_left : ((t q : Text) → is_below name q ≡ true → lease_of a.outcome.next t q ≡ None)
        → LeavesNothing a.outcome.next name
    nothing_left no_lease = record {
      mount = ap (λ (m : Map Mount). get m name) mounts_are ∙ get-without now.mounts name name
          ∙ ap (λ v. cond v None (get now.mounts name)) (same_self name);
      secrets = λ q below. without_those name a.outcome.next.secrets now.secrets secrets_are q
          ∙ ap (λ v. cond (not v) (get now.secrets q) None) below;
      roles = λ q below. without_those name a.outcome.next.roles now.roles roles_are q
          ∙ ap (λ v. cond (not v) (get now.roles q) None) below;
      leases = no_lease;
    }

-- whatever is asked
pub disabled_mounts_go : OperationsDoAsTold → AllDisabledMountsGo
disabled_mounts_go told b history asked = record {
  nothing = λ i a name at d.
      let is = (asked_at b history i a asked at).outcome in
      let by = done_is a is name d (it a is name d).caller (acted a is name d) in
      nothing_left a is name d by.0 by.1 (λ t q below.
      (leases_stay_revoked told b history asked).gone i a t q at (record {
        command = on_mount name MountCommand.Disable;
        means = d.means;
        ends = (below, d.there);
        answered = d.answered;
      }));
  others = λ i a name at d.
      let is = (asked_at b history i a asked at).outcome in
      let by = done_is a is name d (it a is name d).caller (acted a is name d) in
      others a is name d by.0 by.1;
}
