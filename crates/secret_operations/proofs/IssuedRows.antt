-- A credential that was issued: its rows, its identifiers, and the broker that they represent.
use Rattle.std.proofs.Common.{◌≡◌, ◌≢◌, ◌==◌, ◌&&◌, ◌||◌, ◌∷◌, ◌++◌, if◌then◌else◌, ℕ, [], not, true, false, codes, Ok}
use Rattle.broker_model.specs.Words.{Option, Some, None, option_map, is_none, Result, Err, option_map_or, refl, sym}
use Rattle.broker_model.specs.Words.{◌∙◌, ap, subst, append_assoc, false≢true, and_parts, none-some, same_Some, Broker}
use Rattle.broker_model.specs.Words.{Role, IsNew, get, put, is_name, is_mount_name, is_nothing, lease_identifier}
use Rattle.broker_model.specs.Words.{some_or, unless, ok_step, some_ok, EndsOk, Sound, IsSoundRole, IsIdentifier, Text}
use Rattle.broker_model.specs.Words.{same, same_self, Token, are_new, use_up, first_new, Refusal, joined_rows, Tells}
use Rattle.broker_model.specs.Words.{KeepsOthers, of_leases, used_row, rows_of, split-lacking, slash, split_once}
use Rattle.broker_model.specs.Words.{table_of, with_row, TokenEntry, token_entry, Rows, ok_inj, mount_no_slash}
use Rattle.broker_model.specs.Words.{issue_sound, identifier_of_id, new_lease_sound, MayBeIssued, Issued, IssuedLease}
use Rattle.broker_model.specs.Words.{role_name, lease_id, new_lease, is_last_use, creds, shows_in_leases, forms}
use Rattle.broker_types.specs.declared.refusal.Refusal.TheVariants as refusal
use Rattle.broker_types.specs.declared.refusal.Reason.TheVariants as reason
use Rattle.records.specs.declared.kind.Kind.TheVariants as kind
use Rattle.leases.specs.Leases.{issue}
use Rattle.leases.specs.Roles as roles
use Rattle.broker_rows.specs.Words.{Caller, IsCallerOf, marks_joined, Represents}
use Rattle.secret_operations.specs.Issuing.{IsLeased}

-- ---- the name of a role that is there

-- a role is kept under a name
role_named : (mount name : Text) (r : Role) → is_mount_name mount ≡ true → IsSoundRole (role_name mount name) r
    → is_name name ≡ true
role_named mount name r is_mount s =
    let parts : role_name mount name ≡ s.mount ++ slash ∷ s.role = s.parts ∙ append_assoc s.mount (codes "/") s.role in
    let pair = same_Some _ _
    (sym (split-lacking slash mount name (mount_no_slash mount is_mount)) ∙ ap (split_once slash) parts
    ∙ split-lacking slash s.mount s.role (mount_no_slash s.mount s.mount_name)) in
    ap (λ (p : Text × Text). is_name p.1) pair ∙ s.role_name

-- ---- the caller

-- the entry of a caller tells whether this is its last use
pub last_use : (b : Broker) (c : Caller) → IsCallerOf b c → option_map_or (λ n. n == 0) c.known.uses_left false
    ≡ is_last_use b c.token
last_use b c is = by (get b.tokens c.token) is
  where
    by : (o : Option Token) → Some c.known ≡ option_map token_entry o
        → option_map_or (λ n. n == 0) c.known.uses_left false
        ≡ option_map_or (λ (x : Token). option_map_or (λ n. n == 0) x.uses_left false) o false
    by None h = absurd (none-some _ (sym h))
    by (Some x) h = ap (λ (e : TokenEntry). option_map_or (λ n. n == 0) e.uses_left false) (same_Some _ _ h)

-- ---- a lease that may be made

module _ (b : Broker) (c : Text) (sound : Sound forms (Some c) b) (mount name identifier credential : Text)
    (is_mount : is_mount_name mount ≡ true)
    (good : IsIdentifier identifier) (good_too : IsIdentifier credential)
    (new : are_new b.used (identifier ∷ credential ∷ []) ≡ true)
    (here : get b.tokens c ≢ None) where
  abbrev id : Text
  id = lease_id mount name identifier

  ends_with : lease_identifier id ≡ identifier
  ends_with = identifier_of_id mount name identifier good

  rest_new : (not (same identifier credential || false) ≡ true) × ((is_none (get b.used credential) && true) ≡ true)
  rest_new = and_parts _ _ (and_parts (is_none (get b.used identifier)) _ new).1

  pub identifier_new : IsNew b identifier
  identifier_new = first_new b.used identifier credential new

  pub credential_new : IsNew b credential
  credential_new = is_nothing (get b.used credential) (and_parts (is_none (get b.used credential)) true rest_new.1).0

  differ : identifier ≢ credential
  differ e =
      false≢true (sym (ap (λ v. not (v || false)) (same_self identifier))
      ∙ ap (λ k. not (same identifier k || false)) e ∙ rest_new.0)

  pub id_new : IsNew b (lease_identifier id)
  id_new = subst (IsNew b) (sym ends_with) identifier_new

  may_be_issued : (r : Role) → roles.role b mount name ≡ Some r → MayBeIssued b c id (new_lease b.clock r credential)
  may_be_issued r is = record {
    sound = new_lease_sound mount name identifier credential b.clock r is_mount
        (role_named mount name r is_mount (sound.roles (role_name mount name) r is)) good good_too sound.clock;
    here = here;
    id_is_new = id_new;
    credential_is_new = credential_new;
    differ = λ e. differ (sym ends_with ∙ e);
  }

  -- ---- what is left

  module _ (old mid new_rows : Rows) (st : Represents (Some c) old b)
      (keeps : KeepsOthers of_leases (table_of old) (table_of mid))
      (marks : table_of new_rows ≡ with_row (with_row (table_of mid) kind.Used credential used_row) kind.Used
      identifier used_row) where
    -- the lease was made, and both identifiers were marked
    represents-issued : (r : Role) → roles.role b mount name ≡ Some r
        → Tells of_leases (table_of mid) (issue b c id (new_lease b.clock r credential))
        → Represents (Some c) new_rows (record
        (issue b c id (new_lease b.clock r credential)) { used = use_up b.used (identifier ∷ credential ∷ []) })
    represents-issued r is tells =
        let l = new_lease b.clock r credential in
        let may = may_be_issued r is in
        let next = issue b c id l in
        let made : table_of mid ≡ rows_of next =
        joined_rows of_leases (table_of old) (table_of mid) b next st.rows tells keeps
        (shows_in_leases b (λ u m. if same u c then put m id l else m)) in
        record {
          rows = marks_joined next identifier credential (table_of mid) (table_of new_rows) marks made;
          sound = subst (λ i. Sound forms (Some c) (record next { used = use_up b.used (i ∷ credential ∷ []) }))
              ends_with
              (issue_sound b c id l forms (Some c) st.sound may (subst IsIdentifier (sym ends_with) good));
        }

    -- what is issued by a lease
    abbrev given : IssuedLease → Issued
    given x = record { lease_id = x.lease_id; lease = x.lease; next = issue b c x.lease_id x.lease }

    -- so what a call on leases has made is issued
    pub leased : (l : Text × ℕ) → EndsOk (λ x (i : Issued). (x ≡ (i.lease_id, i.lease.ttl))
        × Tells of_leases (table_of mid) i.next) l
        (creds b c mount name identifier credential)
        → EndsOk (IsLeased c new_rows identifier credential) l (creds b c mount name identifier credential)
    leased l ends = by (creds b c mount name identifier credential) refl ends
      where
        by : (m : Result Issued Refusal) → creds b c mount name identifier credential ≡ m
            → EndsOk (λ x (i : Issued). (x ≡ (i.lease_id, i.lease.ttl)) × Tells of_leases (table_of mid) i.next) l m
            → EndsOk (IsLeased c new_rows identifier credential) l m
        by (Err r) is h = absurd h
        by (Ok i) is h =
            let x = ok_step (roles.issued (roles.role b mount name) (is_last_use b c) b.clock mount name identifier
            credential) _ i is in
            let r = ok_step (some_or refusal.NotFound (roles.role b mount name)) _ x.0 x.1 in
            let lasts =
            ok_step (unless (not (is_last_use b c)) (refusal.BadRequest reason.LastUseTakesLease)) _ x.0 r.2 in
            let there = some_ok refusal.NotFound (roles.role b mount name) r.0 r.1 in
            let same = ap given (ok_inj lasts.2) ∙ ok_inj x.2 in (
              h.0,
              subst (λ (i : Issued). Represents (Some c) new_rows
                  (record i.next { used = use_up i.next.used (identifier ∷ credential ∷ []) })) same
                  (represents-issued r.0 there (subst (λ (i : Issued). Tells of_leases (table_of mid) i.next)
                  (sym same) h.1)),
            )
