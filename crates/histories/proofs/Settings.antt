-- What becomes of roles, policies and mounts by a request.
use Rattle.std.proofs.Common.{◌≡◌, ◌≢◌, ◌⊎◌, ◌==◌, ◌&&◌, ◌||◌, if◌then◌else◌}
use Rattle.broker_model.specs.Words.{same_map, new_mount, RoleSettings, MountSettings}
use Rattle.leases.specs.Roles as roles
use Rattle.policies.specs.Policies as policies
use Rattle.histories.specs.Words.{ℕ, [], Bool, true, false, not, cond, Some, is_some, nat_eq, Option, None, Ok}
use Rattle.histories.specs.Words.{option_map, unwrap_or, codes, list_any, starts_with, option_map_or, refl, sym, ◌∙◌}
use Rattle.histories.specs.Words.{ap, subst, inl, inr, arith, and_parts, eqb-true, false≢true, not-true, or_parts}
use Rattle.histories.specs.Words.{none-some, same_Some, Text, same, same_self, same_true, Map, change, get, put}
use Rattle.histories.specs.Words.{without, get-change, get-keep, get-put, get-put_self, get-without, get-without_self}
use Rattle.histories.specs.Words.{Broker, Engine, Mount, Role, Waiting, issued, kv, is_name, reserved_names, nothing}
use Rattle.histories.specs.Words.{Done, some_or, unless, no_ok, ok_step, unless_ok, status_code, Tokens, not_there}
use Rattle.histories.specs.Words.{ok_inj, role_name, disabled, enabled, engine_asked, may_go, plain_mount}
use Rattle.histories.specs.Words.{MountCreation, Command, command_of, on_cubbyhole, on_issued, on_lease, on_mount}
use Rattle.histories.specs.Words.{on_policy, on_secret, on_token, on_wrapping, SameUnless, OperationsDoAsTold, Outcome}
use Rattle.histories.specs.Words.{request_of, step, traits, may_change, without_kept, Place, Reason, Refusal, Status}
use Rattle.histories.specs.Words.{Kind, with_settings, CubbyholeCommand, IssuedCommand, MountCommand, PolicyCommand}
use Rattle.histories.specs.Words.{Asking, clocked, spent_by, AllSettingsFollow, Enables, IsEnabled, MeansEngine}
use Rattle.histories.specs.Words.{MountBecomes, MountIsSet, OnMount, OnPolicy, OnRole, PolicyBecomes, RoleBecomes}
use Rattle.histories.specs.Words.{Sets, SetsMount, role_given, LeaseCommand, SecretCommand, TokenCommand}
use Rattle.histories.specs.Words.{WrappingCommand}
use Rattle.histories.proofs.Disabled.{left}
use Rattle.histories.proofs.EventSecrets.{is_204}
use Rattle.histories.proofs.Order.{IsTurnedAway, IsTurnedDown, some_ok, spent, end_spent_same, asked_at}
use Rattle.histories.proofs.Order.{means_at_clock, Served, cases, served}
use Rattle.histories.proofs.ServedFor.{NeedsCaller, ServedFor, served_for}

-- ---- a map that no token, response or identifier is in

module _ {X : Type 0} (f : Broker → X) (by_tokens : (b : Broker) (ts : Tokens) → f (record b { tokens = ts }) ≡ f b)
    (by_waiting : (b : Broker) (ws : Map Waiting) → f (record b { waiting = ws }) ≡ f b) (a : Asking)
    (is : a.outcome ≡ step a.broker a.moment a.words a.ask) where
  spent_same : (caller : Option Text) → f (spent (clocked a) caller) ≡ f (clocked a)
  spent_same None = refl
  spent_same (Some c) = by_tokens (clocked a) _

  -- is as it was, or the request was served
  same_or_served : (f a.outcome.next ≡ f (clocked a)) ⊎ Served a
  same_or_served = by_cases (cases a is)
    where
      by_cases : IsTurnedAway (clocked a) (request_of a.ask) a.outcome ⊎ (IsTurnedDown (clocked a) a.outcome ⊎ Served a)
          → (f a.outcome.next ≡ f (clocked a)) ⊎ Served a
      by_cases (inl s) = inl (ap (λ (o : Outcome). f o.next) s.outcome ∙ elim s.removed [
        | inl same_now ↦ ap f same_now
        | inr (t, closed, token, waits, dropped) ↦ ap f dropped ∙ by_waiting (clocked a) _
      ])
      by_cases (inr (inl s)) =
          inl (ap (λ (o : Outcome). f o.next) s.outcome
          ∙ end_spent_same f (λ b t. by_tokens b _) (spent (clocked a) s.caller) s.caller ∙ spent_same s.caller)
      by_cases (inr (inr s)) = inr s

-- ---- a served request

module _ (a : Asking) where
  abbrev now : Broker
  now = clocked a

  -- it means its command
  means_it : (s : Served a) (k : Command) → s.command ≡ k → command_of now.mounts a.ask ≡ Ok k
  means_it s k is = means_at_clock a s.caller s.command s.means ∙ ap Ok is

  roles_left : (s : Served a) → a.outcome.next.roles ≡ (s.done).next.roles
  roles_left s = left (λ (b : Broker). b.roles) (λ _ _. refl) (λ _ _. refl) (λ _ _. refl) a s

  policies_left : (s : Served a) → a.outcome.next.policies ≡ (s.done).next.policies
  policies_left s = left (λ (b : Broker). b.policies) (λ _ _. refl) (λ _ _. refl) (λ _ _. refl) a s

  mounts_left : (s : Served a) → a.outcome.next.mounts ≡ (s.done).next.mounts
  mounts_left s = left (λ (b : Broker). b.mounts) (λ _ _. refl) (λ _ _. refl) (λ _ _. refl) a s

-- ---- which commands may change these maps

touches_roles : (command : Command) → may_change (traits command).changes Kind.Role ≡ true
    → ((p : Place) × (k : IssuedCommand) × (command ≡ on_issued p k)) ⊎
    ((name : Text) × (command ≡ on_mount name MountCommand.Disable))
touches_roles (on_issued p k) e = inl (p, k, refl)
touches_roles (on_mount name MountCommand.Disable) e = inr (name, refl)
touches_roles (on_mount name _) e = absurd (false≢true e)
touches_roles (on_cubbyhole path (CubbyholeCommand.Write full)) e = absurd (false≢true e)
touches_roles (on_cubbyhole path _) e = absurd (false≢true e)
touches_roles (on_token (TokenCommand.LookUp t)) e = absurd (false≢true e)
touches_roles (on_token _) e = absurd (false≢true e)
touches_roles (on_secret p SecretCommand.ShowSettings) e = absurd (false≢true e)
touches_roles (on_secret p _) e = absurd (false≢true e)
touches_roles (on_policy name (PolicyCommand.Set text)) e = absurd (false≢true e)
touches_roles (on_policy name _) e = absurd (false≢true e)
touches_roles (on_lease prefix (LeaseCommand.LookUp id)) e = absurd (false≢true e)
touches_roles (on_lease prefix _) e = absurd (false≢true e)
touches_roles (on_wrapping (WrappingCommand.Unwrap t)) e = absurd (false≢true e)
touches_roles (on_wrapping _) e = absurd (false≢true e)

touches_policies : (command : Command) → may_change (traits command).changes Kind.Policy ≡ true
    → (name : Text) × (k : PolicyCommand) × (command ≡ on_policy name k)
touches_policies (on_policy name k) e = (name, k, refl)
touches_policies (on_issued p IssuedCommand.Issue) e = absurd (false≢true e)
touches_policies (on_issued p _) e = absurd (false≢true e)
touches_policies (on_mount name MountCommand.Disable) e = absurd (false≢true e)
touches_policies (on_mount name _) e = absurd (false≢true e)
touches_policies (on_cubbyhole path (CubbyholeCommand.Write full)) e = absurd (false≢true e)
touches_policies (on_cubbyhole path _) e = absurd (false≢true e)
touches_policies (on_token (TokenCommand.LookUp t)) e = absurd (false≢true e)
touches_policies (on_token _) e = absurd (false≢true e)
touches_policies (on_secret p SecretCommand.ShowSettings) e = absurd (false≢true e)
touches_policies (on_secret p _) e = absurd (false≢true e)
touches_policies (on_lease prefix (LeaseCommand.LookUp id)) e = absurd (false≢true e)
touches_policies (on_lease prefix _) e = absurd (false≢true e)
touches_policies (on_wrapping (WrappingCommand.Unwrap t)) e = absurd (false≢true e)
touches_policies (on_wrapping _) e = absurd (false≢true e)

touches_mounts : (command : Command) → may_change (traits command).changes Kind.Mount ≡ true
    → ((name : Text) × (k : MountCommand) × (command ≡ on_mount name k)) ⊎
    ((p : Place) × (asked : MountSettings) × (command ≡ on_secret p (SecretCommand.SetSettings asked)))
touches_mounts (on_mount name k) e = inl (name, k, refl)
touches_mounts (on_secret p (SecretCommand.SetSettings asked)) e = inr (p, asked, refl)
touches_mounts (on_secret p _) e = absurd (false≢true e)
touches_mounts (on_policy name (PolicyCommand.Set text)) e = absurd (false≢true e)
touches_mounts (on_policy name _) e = absurd (false≢true e)
touches_mounts (on_issued p IssuedCommand.Issue) e = absurd (false≢true e)
touches_mounts (on_issued p _) e = absurd (false≢true e)
touches_mounts (on_cubbyhole path (CubbyholeCommand.Write full)) e = absurd (false≢true e)
touches_mounts (on_cubbyhole path _) e = absurd (false≢true e)
touches_mounts (on_token (TokenCommand.LookUp t)) e = absurd (false≢true e)
touches_mounts (on_token _) e = absurd (false≢true e)
touches_mounts (on_lease prefix (LeaseCommand.LookUp id)) e = absurd (false≢true e)
touches_mounts (on_lease prefix _) e = absurd (false≢true e)
touches_mounts (on_wrapping (WrappingCommand.Unwrap t)) e = absurd (false≢true e)
touches_mounts (on_wrapping _) e = absurd (false≢true e)

-- ---- roles

module _ (a : Asking) (p : Place) where
  abbrev role : Text
  role = role_name p.mount p.path

  role_set_by : (asked : RoleSettings) (s : ServedFor a (on_issued p (IssuedCommand.SetRole asked)))
      → (a.outcome.next.roles ≡ put (clocked a).roles role (role_given asked)) × (s.it.done.answered ≡ nothing)
  role_set_by asked s =
      let d = s.it.done in
      let next = ok_step (roles.set_role (spent_by a s.caller) p.mount p.path (role_given asked)) _ d s.acted in
      let free = ok_step (unless (is_name p.path) (Refusal.BadRequest Reason.InvalidName)) _ next.0 next.1 in (
        roles_left a s.it ∙ ap (λ (z : Done). z.next.roles) (sym (ok_inj next.2))
            ∙ ap (λ (b : Broker). b.roles) (sym (ok_inj free.2)),
        ap (λ (z : Done). z.answered) (sym (ok_inj next.2)),
      )

  role_removed_by : (s : ServedFor a (on_issued p IssuedCommand.RemoveRole))
      → (a.outcome.next.roles ≡ without (clocked a).roles role) × (s.it.done.answered ≡ nothing)
  role_removed_by s = (
    roles_left a s.it ∙ ap (λ (z : Done). z.next.roles) (sym (ok_inj s.acted)),
    ap (λ (z : Done). z.answered) (sym (ok_inj s.acted)),
  )

  module _ (s : Served a) (q : Text) where
    abbrev Becomes : Option Role → Type 0
    Becomes new = RoleBecomes a q (get (clocked a).roles q) new

    on_role : (k : IssuedCommand) (f : ServedFor a (on_issued p k)) → f.it.done.answered ≡ nothing
        → command_of (clocked a).mounts a.ask ≡ Ok (on_issued p k) → q ≡ role → OnRole a q k
    on_role k f answered means at =
        record { place = p; means = means; name = at; answered = is_204 a f.it answered }

    -- by a command that may change it
    role_becomes : (k : IssuedCommand) → s.command ≡ on_issued p k
        → may_change (traits (on_issued p k)).changes Kind.Role ≡ true → Becomes (get a.outcome.next.roles q)
    role_becomes (IssuedCommand.SetRole asked) is may =
        let means = means_it a s (on_issued p (IssuedCommand.SetRole asked)) is in
        let f = served_for a s (on_issued p (IssuedCommand.SetRole asked)) means (λ b names d e. no_ok e) in
        let left = role_set_by asked f in
        subst Becomes
        (sym (ap (λ (m : Map Role). get m q) left.0 ∙ get-put (clocked a).roles role (role_given asked) q))
        (by (same q role) refl (λ at. on_role (IssuedCommand.SetRole asked) f left.1 means at))
      where
        by : (v : Bool) → same q role ≡ v → (q ≡ role → OnRole a q (IssuedCommand.SetRole asked))
            → Becomes (cond v (Some (role_given asked)) (get (clocked a).roles q))
        by true at on = inr (inl (asked, on (same_true q role at), refl))
        by false apart on = inl refl
    role_becomes IssuedCommand.RemoveRole is may =
        let means = means_it a s (on_issued p IssuedCommand.RemoveRole) is in
        let f = served_for a s (on_issued p IssuedCommand.RemoveRole) means (λ b names d e. no_ok e) in
        let left = role_removed_by f in
        subst Becomes (sym (ap (λ (m : Map Role). get m q) left.0 ∙ get-without (clocked a).roles role q))
        (by (same q role) refl (λ at. on_role IssuedCommand.RemoveRole f left.1 means at))
      where
        by : (v : Bool) → same q role ≡ v → (q ≡ role → OnRole a q IssuedCommand.RemoveRole)
            → Becomes (cond v None (get (clocked a).roles q))
        by true at on = inr (inr (refl, inl (on (same_true q role at))))
        by false apart on = inl refl
    role_becomes _ is may = absurd (false≢true may)

-- ---- a mount that is disabled

-- a map without what is not there
without_none : {X : Type 0} (m : Map X) (k : Text) → get m k ≡ None → without m k ≡ m
without_none m k none =
    same_map (without m k) m (λ q. get-without m k q
    ∙ elim (same q k) as (λ v. same q k ≡ v → cond v None (get m q) ≡ get m q) [
      | true ↦ λ at. sym (ap (get m) (same_true q k at) ∙ none)
      | false ↦ λ _. refl
    ] refl)

-- the broker without a mount that was there, and what was kept there
abbrev disabled_left : Broker → Map Mount → Text → Option Mount → Broker
disabled_left b next name o = if is_some o then without_kept (record b { mounts = next }) name else b

module _ (a : Asking) (name : Text) (s : ServedFor a (on_mount name MountCommand.Disable)) where
  pub record DidDisable : Type 0 where
    pub next : (s.it.done).next
        ≡ disabled_left (spent_by a s.caller) (without (clocked a).mounts name) name (get (clocked a).mounts name)
    pub answered : (s.it.done).answered ≡ nothing

  did_disable : DidDisable
  did_disable =
      let d = s.it.done in
      let next = ok_step (disabled (clocked a).mounts name) _ d s.acted in
      let free = ok_step (may_go name) _ next.0 next.1 in
      record {
        next = ap (λ (z : Done). z.next) (sym (ok_inj next.2))
            ∙ ap (λ m. disabled_left (spent_by a s.caller) m name (get (clocked a).mounts name)) (sym (ok_inj free.2));
        answered = ap (λ (z : Done). z.answered) (sym (ok_inj next.2));
      }

  module _ (means : command_of (clocked a).mounts a.ask ≡ Ok (on_mount name MountCommand.Disable)) (q : Text) where
    abbrev RoleIs : Option Role → Type 0
    RoleIs new = RoleBecomes a q (get (clocked a).roles q) new

    -- a role goes with it, or stays
    role_goes : RoleIs (get a.outcome.next.roles q)
    role_goes =
        let did = did_disable in
        subst RoleIs (sym (ap (λ (m : Map Role). get m q) (roles_left a s.it ∙ ap (λ (b : Broker). b.roles) did.next)))
        (by (get (clocked a).mounts name) refl did.answered)
      where
        below : (o : Option Mount) → get (clocked a).mounts name ≡ o → o ≢ None → (s.it.done).answered ≡ nothing
            → (v : Bool) → starts_with nat_eq q (role_name name []) ≡ v
            → RoleIs (cond (not v) (get (clocked a).roles q) None)
        below o at there answered true is = inr (inr (
          refl,
          inr (record {
            name = name;
            below = is;
            means = means;
            there = λ none. there (sym at ∙ none);
            answered = is_204 a s.it answered;
          }),
        ))
        below o at there answered false is = inl refl

        by : (o : Option Mount) → get (clocked a).mounts name ≡ o → (s.it.done).answered ≡ nothing
            → RoleIs (get (disabled_left (spent_by a s.caller) (without (clocked a).mounts name) name o).roles q)
        by None at answered = inl refl
        by (Some m) at answered =
            subst RoleIs (sym (get-keep (λ u. not (starts_with nat_eq u (role_name name []))) (clocked a).roles q))
            (below (Some m) at (λ e. none-some _ (sym e)) answered (starts_with nat_eq q (role_name name [])) refl)

    abbrev MountIs : Option Mount → Type 0
    MountIs new = MountBecomes a q (get (clocked a).mounts q) new

    -- the mount itself is gone
    mounts_after : a.outcome.next.mounts ≡ without (clocked a).mounts name
    mounts_after =
        let did = did_disable in
        mounts_left a s.it ∙ ap (λ (b : Broker). b.mounts) did.next ∙ by (get (clocked a).mounts name) refl
      where
        by : (o : Option Mount) → get (clocked a).mounts name ≡ o
            → (disabled_left (spent_by a s.caller) (without (clocked a).mounts name) name o).mounts
            ≡ without (clocked a).mounts name
        by None none = sym (without_none (clocked a).mounts name none)
        by (Some m) some = refl

    mount_goes : MountIs (get a.outcome.next.mounts q)
    mount_goes =
        subst MountIs (sym (ap (λ (m : Map Mount). get m q) mounts_after ∙ get-without (clocked a).mounts name q))
        (by (same q name) refl)
      where
        by : (v : Bool) → same q name ≡ v → MountIs (cond v None (get (clocked a).mounts q))
        by true at = inr (inr (inr (
          refl,
          record {
            means = means ∙ ap (λ u. Ok (on_mount u MountCommand.Disable)) (sym (same_true q name at));
            answered = is_204 a s.it did_disable.answered;
          },
        )))
        by false apart = inl refl

-- ---- policies

-- names that a test tells apart
apart_from : (name other : Text) → same name other ≡ false → name ≢ other
apart_from name other apart is = false≢true (sym apart ∙ ap (λ u. same u other) is ∙ same_self other)

module _ (a : Asking) (name : Text) where
  policy_set_by : (text : Text) (s : ServedFor a (on_policy name (PolicyCommand.Set text)))
      → (a.outcome.next.policies ≡ put (clocked a).policies name text) × (s.it.done.answered ≡ nothing)
      × (name ≢ codes "root")
  policy_set_by text s =
      let d = s.it.done in
      let next = ok_step (policies.set (clocked a).policies name text) _ d s.acted in
      let may = ok_step (policies.may_set name text) _ next.0 next.1 in
      let named = ok_step (unless (is_name name) (Refusal.BadRequest Reason.InvalidName)) _ may.0 may.1 in
      let free = ok_step (unless (not (policies.is_root name)) policies.fixed) _ may.0 named.2 in (
        policies_left a s.it ∙ ap (λ (z : Done). z.next.policies) (sym (ok_inj next.2)) ∙ sym (ok_inj may.2),
        ap (λ (z : Done). z.answered) (sym (ok_inj next.2)),
        apart_from name (codes "root") (not-true _ (unless_ok _ _ free.0 free.1)),
      )

  policy_removed_by : (s : ServedFor a (on_policy name PolicyCommand.Remove))
      → (a.outcome.next.policies ≡ without (clocked a).policies name) × (s.it.done.answered ≡ nothing)
      × (name ≢ codes "root") × (name ≢ codes "default")
  policy_removed_by s =
      let d = s.it.done in
      let next = ok_step (policies.deleted (clocked a).policies name) _ d s.acted in
      let may = ok_step (policies.may_delete name) _ next.0 next.1 in
      let free = or_parts (policies.is_root name) (same name policies.default)
      (not-true _ (unless_ok _ policies.fixed may.0 may.1)) in (
        policies_left a s.it ∙ ap (λ (z : Done). z.next.policies) (sym (ok_inj next.2)) ∙ sym (ok_inj may.2),
        ap (λ (z : Done). z.answered) (sym (ok_inj next.2)),
        apart_from name (codes "root") free.0,
        apart_from name (codes "default") free.1,
      )

  module _ (s : Served a) (q : Text) where
    abbrev PolicyIs : Option Text → Type 0
    PolicyIs new = PolicyBecomes a q (get (clocked a).policies q) new

    policy_becomes : (k : PolicyCommand) → s.command ≡ on_policy name k
        → may_change (traits (on_policy name k)).changes Kind.Policy ≡ true
        → PolicyIs (get a.outcome.next.policies q)
    policy_becomes (PolicyCommand.Set text) is may =
        let means = means_it a s (on_policy name (PolicyCommand.Set text)) is in
        let f = served_for a s (on_policy name (PolicyCommand.Set text)) means (λ b names d e. no_ok e) in
        let left = policy_set_by text f in
        subst PolicyIs
        (sym (ap (λ (m : Map Text). get m q) left.0 ∙ get-put (clocked a).policies name text q))
        (by (same q name) refl (record { means = means; answered = is_204 a f.it left.1 }) left.2)
      where
        by : (v : Bool) → same q name ≡ v → OnPolicy a name (PolicyCommand.Set text) → name ≢ codes "root"
            → PolicyIs (cond v (Some text) (get (clocked a).policies q))
        by true at on free =
            let is_q = sym (same_true q name at) in
            inr (inl (
              text,
              subst (λ u. OnPolicy a u (PolicyCommand.Set text)) is_q on,
              refl,
              subst (λ u. u ≢ codes "root") is_q free,
            ))
        by false apart on free = inl refl
    policy_becomes PolicyCommand.Remove is may =
        let means = means_it a s (on_policy name PolicyCommand.Remove) is in
        let f = served_for a s (on_policy name PolicyCommand.Remove) means (λ b names d e. no_ok e) in
        let left = policy_removed_by f in
        subst PolicyIs (sym (ap (λ (m : Map Text). get m q) left.0 ∙ get-without (clocked a).policies name q))
        (by (same q name) refl (record { means = means; answered = is_204 a f.it left.1 }) left.2 left.3)
      where
        by : (v : Bool) → same q name ≡ v → OnPolicy a name PolicyCommand.Remove → name ≢ codes "root"
            → name ≢ codes "default" → PolicyIs (cond v None (get (clocked a).policies q))
        by true at on free other =
            let is_q = sym (same_true q name at) in
            inr (inr (
              refl,
              subst (λ u. OnPolicy a u PolicyCommand.Remove) is_q on,
              subst (λ u. u ≢ codes "root") is_q free,
              subst (λ u. u ≢ codes "default") is_q other,
            ))
        by false apart on free other = inl refl
    policy_becomes _ is may = absurd (false≢true may)

-- ---- a mount that is enabled

-- the engine is that of the type
engine_meant : (asked : MountCreation) (e : Engine) → engine_asked asked.type_name asked.version ≡ Some e
    → MeansEngine asked e
engine_meant asked e is =
    by (same asked.type_name (codes "issued")) refl (same asked.type_name (codes "kv-v2")) refl
    (same asked.type_name (codes "kv") && option_map_or (λ v. v == 2) asked.version false) refl is
  where
    version_is : (o : Option ℕ) → option_map_or (λ v. v == 2) o false ≡ true → o ≡ Some 2
    version_is None none = absurd (false≢true none)
    version_is (Some n) two = ap Some (eqb-true n 2 two)

    by : (u : Bool) → same asked.type_name (codes "issued") ≡ u
        → (v : Bool) → same asked.type_name (codes "kv-v2") ≡ v
        → (w : Bool) → (same asked.type_name (codes "kv") && option_map_or (λ v. v == 2) asked.version false) ≡ w
        → (if u then Some issued else (if v then Some kv else (if w then Some kv else None))) ≡ Some e
        → MeansEngine asked e
    by true at v is_v w is_w so = subst (MeansEngine asked) (same_Some _ _ so) (same_true _ _ at)
    by false at true is_v w is_w so = subst (MeansEngine asked) (same_Some _ _ so) (inl (same_true _ _ is_v))
    by false at false is_v true is_w so =
        let both = and_parts (same asked.type_name (codes "kv")) _ is_w in
        subst (MeansEngine asked) (same_Some _ _ so)
        (inr (same_true _ _ both.0, version_is asked.version both.1))
    by false at false is_v false is_w so = absurd (none-some _ so)

-- names that are reserved are found so
reserved_all : (list_any (same (codes "sys")) reserved_names ≡ true)
    × (list_any (same (codes "auth")) reserved_names ≡ true)
    × (list_any (same (codes "cubbyhole")) reserved_names ≡ true)
    × (list_any (same (codes "identity")) reserved_names ≡ true)
unfolding same
reserved_all = (refl, refl, refl, refl)

not_reserved : (name other : Text) → list_any (same name) reserved_names ≡ false
    → list_any (same other) reserved_names ≡ true → name ≢ other
not_reserved name other free taken is =
    false≢true (sym free ∙ ap (λ u. list_any (same u) reserved_names) is ∙ taken)

module _ (a : Asking) (name : Text) (asked : MountCreation)
    (s : ServedFor a (on_mount name (MountCommand.Enable asked))) where
  pub record DidEnable : Type 0 where
    pub after : Mount
    pub next : a.outcome.next.mounts ≡ put (clocked a).mounts name after
    pub answered : (s.it.done).answered ≡ nothing
    pub free : get (clocked a).mounts name ≡ None
    pub unreserved : list_any (same name) reserved_names ≡ false
    pub is : IsEnabled asked after

  did_enable : DidEnable
  did_enable =
      let d = s.it.done in
      let here = (clocked a).mounts in
      let next = ok_step (enabled here name asked.type_name asked.version) _ d s.acted in
      let m = ok_step (new_mount (is_some (get here name)) name asked.type_name asked.version) _ next.0 next.1 in
      let named = ok_step (unless (is_name name) (Refusal.BadRequest Reason.InvalidName)) _ m.0 m.1 in
      let free = ok_step (unless (not (is_some (get here name) || list_any (same name) reserved_names))
      (Refusal.BadRequest Reason.PathInUse)) _ m.0 named.2 in
      let engine = ok_step (some_or (Refusal.BadRequest Reason.UnsupportedMount)
      (engine_asked asked.type_name asked.version)) _ m.0 free.2 in
      let apart = or_parts (is_some (get here name)) (list_any (same name) reserved_names)
      (not-true _ (unless_ok _ _ free.0 free.1)) in
      let is_plain : plain_mount engine.0 ≡ m.0 = ok_inj engine.2 in
      record {
        after = m.0;
        next = mounts_left a s.it ∙ ap (λ (z : Done). z.next.mounts) (sym (ok_inj next.2)) ∙ sym (ok_inj m.2);
        answered = ap (λ (z : Done). z.answered) (sym (ok_inj next.2));
        free = not_there (get here name) apart.0;
        unreserved = apart.1;
        is = subst (IsEnabled asked) is_plain (record {
          engine = engine_meant asked engine.0 (some_ok _ (engine_asked asked.type_name asked.version) engine.1);
          cas_required = refl;
          max_versions = refl;
        });
      }

  mount_enabled_by : command_of (clocked a).mounts a.ask ≡ Ok (on_mount name (MountCommand.Enable asked))
      → Enables a name asked (get (clocked a).mounts name) (get a.outcome.next.mounts name)
  mount_enabled_by means =
      let did = did_enable in
      record {
        on = record { means = means; answered = is_204 a s.it did.answered };
        free = did.free;
        unreserved = (
          not_reserved name (codes "sys") did.unreserved reserved_all.0,
          not_reserved name (codes "auth") did.unreserved reserved_all.1,
          not_reserved name (codes "cubbyhole") did.unreserved reserved_all.2,
          not_reserved name (codes "identity") did.unreserved reserved_all.3,
        );
        after = did.after;
        there = ap (λ (m : Map Mount). get m name) did.next ∙ get-put_self (clocked a).mounts name did.after;
        is = did.is;
      }

-- ---- settings of a mount

-- those that are given, and the others as they were
settings_set : (asked : MountSettings) (m : Mount)
    → MountIsSet asked m (with_settings asked.cas_required asked.max_versions m)
settings_set asked m = record {
  engine = refl;
  cas_required = λ v e. ap (λ (o : Option Bool). unwrap_or o m.cas_required) e;
  same_cas_required = λ e. ap (λ (o : Option Bool). unwrap_or o m.cas_required) e;
  max_versions = λ n e. ap (λ (o : Option ℕ). unwrap_or o m.max_versions) e;
  same_max_versions = λ e. ap (λ (o : Option ℕ). unwrap_or o m.max_versions) e;
}

module _ (a : Asking) (p : Place) (asked : MountSettings) (s : ServedFor a
    (on_secret p (SecretCommand.SetSettings asked)))
    (means : command_of (clocked a).mounts a.ask ≡ Ok (on_secret p (SecretCommand.SetSettings asked))) where
  abbrev set : Mount → Mount
  set m = with_settings asked.cas_required asked.max_versions m

  settings_left : a.outcome.next.mounts ≡ change (clocked a).mounts p.mount set
  settings_left = mounts_left a s.it ∙ ap (λ (z : Done). z.next.mounts) (sym (ok_inj s.acted))

  sets_mount : (q : Text) → q ≡ p.mount → SetsMount a q asked
  sets_mount q at = record {
    place = p;
    means = means;
    name_is = at;
    answered = is_204 a s.it (ap (λ (z : Done). z.answered) (sym (ok_inj s.acted)));
  }

  set_by : (q : Text) (o : Option Mount) (v : Bool) → same q p.mount ≡ v
      → MountBecomes a q o (option_map (λ m. if v then set m else m) o)
  set_by q None v at = inl refl
  set_by q (Some m) true at = inr (inr (inl (
    asked,
    record {
      on = sets_mount q (same_true q p.mount at);
      before = m;
      was = refl;
      after = set m;
      there = refl;
      is = settings_set asked m;
    },
  )))
  set_by q (Some m) false at = inl refl

  mount_set_at : (q : Text) → MountBecomes a q (get (clocked a).mounts q) (get a.outcome.next.mounts q)
  mount_set_at q =
      subst (MountBecomes a q (get (clocked a).mounts q))
      (sym (ap (λ (m : Map Mount). get m q) settings_left ∙ get-change (clocked a).mounts p.mount set q))
      (set_by q (get (clocked a).mounts q) (same q p.mount) refl)

  mount_set_by : (q : Text) → q ≡ p.mount → (m : Mount) → get (clocked a).mounts q ≡ Some m
      → Sets a q asked (Some m) (get a.outcome.next.mounts q)
  mount_set_by q at m was = record {
    on = sets_mount q at;
    before = m;
    was = refl;
    after = set m;
    there = ap (λ (z : Map Mount). get z q) settings_left ∙ get-change (clocked a).mounts p.mount set q
        ∙ ap (option_map (λ z. if same q p.mount then set z else z)) was
        ∙ ap (λ u. Some (if same q u then set m else m)) (sym at)
        ∙ ap (λ v. Some (if v then set m else m)) (same_self q);
    is = settings_set asked m;
  }

-- ---- one request

module _ (told : OperationsDoAsTold) (a : Asking) (is : a.outcome ≡ step a.broker a.moment a.words a.ask)
    (q : Text) where
  abbrev RoleIs_ : Type 0
  RoleIs_ = RoleBecomes a q (get (clocked a).roles q) (get a.outcome.next.roles q)

  abbrev PolicyIs_ : Type 0
  PolicyIs_ = PolicyBecomes a q (get (clocked a).policies q) (get a.outcome.next.policies q)

  abbrev MountIs_ : Type 0
  MountIs_ = MountBecomes a q (get (clocked a).mounts q) (get a.outcome.next.mounts q)

  role_served : (s : Served a) → RoleIs_
  role_served s =
      elim (may_change (traits s.command).changes Kind.Role) as
      (λ v. may_change (traits s.command).changes Kind.Role ≡ v
      → SameUnless v (spent (clocked a) s.caller).roles s.done.next.roles → RoleIs_) [
        | true ↦ λ may _. elim (touches_roles s.command may) [
          | inl (p, k, is_k) ↦ role_becomes a p s q k is_k
              (subst (λ (x : Command). may_change (traits x).changes Kind.Role ≡ true) is_k may)
          | inr (name, is_k) ↦
              let means = means_it a s (on_mount name MountCommand.Disable) is_k in
              role_goes a name (served_for a s (on_mount name MountCommand.Disable) means (λ b names d e. no_ok e))
              means q
        ]
        | false ↦ λ _ same_. inl (ap (λ (m : Map Role). get m q)
            (roles_left a s ∙ same_ ∙ spent_same (λ (b : Broker). b.roles) (λ _ _. refl) (λ _ _. refl) a is s.caller))
      ] refl (told (spent (clocked a) s.caller) s.caller a.words s.command s.done s.acted).keeps.roles

  policy_served : (s : Served a) → PolicyIs_
  policy_served s =
      elim (may_change (traits s.command).changes Kind.Policy) as
      (λ v. may_change (traits s.command).changes Kind.Policy ≡ v
      → SameUnless v (spent (clocked a) s.caller).policies s.done.next.policies → PolicyIs_) [
        | true ↦ λ may _.
            let k = touches_policies s.command may in
            policy_becomes a k.0 s q k.1 k.2
            (subst (λ (x : Command). may_change (traits x).changes Kind.Policy ≡ true) k.2 may)
        | false ↦ λ _ same_. inl (ap (λ (m : Map Text). get m q)
            (policies_left a s ∙ same_
            ∙ spent_same (λ (b : Broker). b.policies) (λ _ _. refl) (λ _ _. refl) a is s.caller))
      ] refl (told (spent (clocked a) s.caller) s.caller a.words s.command s.done s.acted).keeps.policies

  mount_by : (s : Served a) (name : Text) (k : MountCommand) → s.command ≡ on_mount name k
      → may_change (traits (on_mount name k)).changes Kind.Mount ≡ true → MountIs_
  mount_by s name (MountCommand.Enable asked) is_k may =
      let means = means_it a s (on_mount name (MountCommand.Enable asked)) is_k in
      let f = served_for a s (on_mount name (MountCommand.Enable asked)) means (λ b names d e. no_ok e) in
      let did = did_enable a name asked f in
      subst (MountBecomes a q (get (clocked a).mounts q))
      (sym (ap (λ (m : Map Mount). get m q) did.next ∙ get-put (clocked a).mounts name did.after q))
      (by (same q name) refl did.after
      (ap (λ (m : Map Mount). get m name) did.next ∙ get-put_self (clocked a).mounts name did.after)
      (mount_enabled_by a name asked f means))
    where
      by : (v : Bool) → same q name ≡ v → (m : Mount) → get a.outcome.next.mounts name ≡ Some m
          → Enables a name asked (get (clocked a).mounts name) (get a.outcome.next.mounts name)
          → MountBecomes a q (get (clocked a).mounts q) (cond v (Some m) (get (clocked a).mounts q))
      by true at m is_m enables =
          let here = sym (same_true q name at) in
          inr (inl (
            asked,
            subst (λ u. Enables a u asked (get (clocked a).mounts u) (Some m)) here
                (subst (Enables a name asked (get (clocked a).mounts name)) is_m enables),
          ))
      by false apart m is_m enables = inl refl
  mount_by s name MountCommand.Disable is_k may =
      let means = means_it a s (on_mount name MountCommand.Disable) is_k in
      mount_goes a name (served_for a s (on_mount name MountCommand.Disable) means (λ b names d e. no_ok e)) means q
  mount_by s name _ is_k may = absurd (false≢true may)

  mount_served : (s : Served a) → MountIs_
  mount_served s =
      elim (may_change (traits s.command).changes Kind.Mount) as
      (λ v. may_change (traits s.command).changes Kind.Mount ≡ v
      → SameUnless v (spent (clocked a) s.caller).mounts s.done.next.mounts → MountIs_) [
        | true ↦ λ may _. elim (touches_mounts s.command may) [
          | inl (name, k, is_k) ↦ mount_by s name k is_k
              (subst (λ (x : Command). may_change (traits x).changes Kind.Mount ≡ true) is_k may)
          | inr (p, asked, is_k) ↦
              let means = means_it a s (on_secret p (SecretCommand.SetSettings asked)) is_k in
              mount_set_at a p asked
              (served_for a s (on_secret p (SecretCommand.SetSettings asked)) means (λ b names d e. no_ok e)) means q
        ]
        | false ↦ λ _ same_. inl (ap (λ (m : Map Mount). get m q)
            (mounts_left a s ∙ same_ ∙ spent_same (λ (b : Broker). b.mounts) (λ _ _. refl) (λ _ _. refl) a is s.caller))
      ] refl (told (spent (clocked a) s.caller) s.caller a.words s.command s.done s.acted).keeps.mounts

  pub role_is : RoleIs_
  role_is = elim (same_or_served (λ (b : Broker). b.roles) (λ _ _. refl) (λ _ _. refl) a is) [
    | inl same_ ↦ inl (ap (λ (m : Map Role). get m q) same_)
    | inr s ↦ role_served s
  ]

  pub policy_is : PolicyIs_
  policy_is = elim (same_or_served (λ (b : Broker). b.policies) (λ _ _. refl) (λ _ _. refl) a is) [
    | inl same_ ↦ inl (ap (λ (m : Map Text). get m q) same_)
    | inr s ↦ policy_served s
  ]

  pub mount_is : MountIs_
  mount_is = elim (same_or_served (λ (b : Broker). b.mounts) (λ _ _. refl) (λ _ _. refl) a is) [
    | inl same_ ↦ inl (ap (λ (m : Map Mount). get m q) same_)
    | inr s ↦ mount_served s
  ]

-- ---- what a 204 did

module _ (a : Asking) (is : a.outcome ≡ step a.broker a.moment a.words a.ask) where
  was_204 : a.outcome.response.status ≡ Status.NoContent → Served a
  was_204 answered = served a is (omega (arith, ap status_code answered))

  for_it : (k : Command) → command_of (clocked a).mounts a.ask ≡ Ok k → NeedsCaller k
      → a.outcome.response.status ≡ Status.NoContent → ServedFor a k
  for_it k means needs answered = served_for a (was_204 answered) k means needs

  role_was_set : (q : Text) (asked : RoleSettings) → OnRole a q (IssuedCommand.SetRole asked)
      → get a.outcome.next.roles q ≡ Some (role_given asked)
  role_was_set q asked on =
      let f = for_it (on_issued on.place (IssuedCommand.SetRole asked)) on.means (λ b names d e. no_ok e) on.answered in
      ap (λ (m : Map Role). get m q) (role_set_by a on.place asked f).0
      ∙ ap (get (put (clocked a).roles (role_name on.place.mount on.place.path) (role_given asked))) on.name
      ∙ get-put_self (clocked a).roles (role_name on.place.mount on.place.path) (role_given asked)

  role_was_removed : (q : Text) → OnRole a q IssuedCommand.RemoveRole → get a.outcome.next.roles q ≡ None
  role_was_removed q on =
      let f = for_it (on_issued on.place IssuedCommand.RemoveRole) on.means (λ b names d e. no_ok e) on.answered in
      ap (λ (m : Map Role). get m q) (role_removed_by a on.place f).0
      ∙ ap (get (without (clocked a).roles (role_name on.place.mount on.place.path))) on.name
      ∙ get-without_self (clocked a).roles (role_name on.place.mount on.place.path)

  policy_was_set : (name text : Text) → OnPolicy a name (PolicyCommand.Set text)
      → get a.outcome.next.policies name ≡ Some text
  policy_was_set name text on =
      let f = for_it (on_policy name (PolicyCommand.Set text)) on.means (λ b names d e. no_ok e) on.answered in
      ap (λ (m : Map Text). get m name) (policy_set_by a name text f).0 ∙ get-put_self (clocked a).policies name text

  policy_was_removed : (name : Text) → OnPolicy a name PolicyCommand.Remove → get a.outcome.next.policies name ≡ None
  policy_was_removed name on =
      let f = for_it (on_policy name PolicyCommand.Remove) on.means (λ b names d e. no_ok e) on.answered in
      ap (λ (m : Map Text). get m name) (policy_removed_by a name f).0 ∙ get-without_self (clocked a).policies name

  mount_was_enabled : (name : Text) (asked : MountCreation) → OnMount a name (MountCommand.Enable asked)
      → Enables a name asked (get (clocked a).mounts name) (get a.outcome.next.mounts name)
  mount_was_enabled name asked on =
      let f = for_it (on_mount name (MountCommand.Enable asked)) on.means (λ b names d e. no_ok e) on.answered in
      mount_enabled_by a name asked f on.means

  mount_was_set : (name : Text) (asked : MountSettings) (m : Mount) → SetsMount a name asked
      → get (clocked a).mounts name ≡ Some m → Sets a name asked (Some m) (get a.outcome.next.mounts name)
  mount_was_set name asked m on was =
      let f = for_it (on_secret on.place (SecretCommand.SetSettings asked)) on.means (λ b names d e. no_ok e)
      on.answered in
      mount_set_by a on.place asked f on.means name on.name_is m was

  mount_was_disabled : (name : Text) → OnMount a name MountCommand.Disable → get a.outcome.next.mounts name ≡ None
  mount_was_disabled name on =
      let f = for_it (on_mount name MountCommand.Disable) on.means (λ b names d e. no_ok e) on.answered in
      ap (λ (m : Map Mount). get m name) (mounts_after a name f on.means name)
      ∙ get-without_self (clocked a).mounts name

pub settings_follow : OperationsDoAsTold → AllSettingsFollow
settings_follow told b history h = record {
  clock = λ i a at. record { roles = refl; policies = refl; mounts = refl };
  roles = λ i a q at. role_is told a (asked_at b history i a h at).outcome q;
  policies = λ i a q at. policy_is told a (asked_at b history i a h at).outcome q;
  mounts = λ i a q at. mount_is told a (asked_at b history i a h at).outcome q;
  role_set = λ i a q asked at on. role_was_set a (asked_at b history i a h at).outcome q asked on;
  role_removed = λ i a q at on. role_was_removed a (asked_at b history i a h at).outcome q on;
  policy_set = λ i a name text at on. policy_was_set a (asked_at b history i a h at).outcome name text on;
  policy_removed = λ i a name at on. policy_was_removed a (asked_at b history i a h at).outcome name on;
  mount_enabled = λ i a name asked at on. mount_was_enabled a (asked_at b history i a h at).outcome name asked on;
  mount_set = λ i a name asked m at on was.
      mount_was_set a (asked_at b history i a h at).outcome name asked m on was;
  mount_disabled = λ i a name at on. mount_was_disabled a (asked_at b history i a h at).outcome name on;
}
