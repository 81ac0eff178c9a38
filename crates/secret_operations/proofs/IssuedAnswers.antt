-- How the commands on roles and credentials end.
use Rattle.std.proofs.Common.{◌≡◌, ◌≤◌, ℕ, true, Option, Some, None, Result, Ok, Err, refl, sym, ◌∙◌, ap, subst}
use Rattle.broker_model.specs.Words.{⊤, Broker, longest_duration, put, is_name, is_mount_name, Names, nothing, reply}
use Rattle.broker_model.specs.Words.{Done, plainly, ◌>>=◌, unless, ok_step, EndsOk, EndsErr, Sound, Text, Refusal}
use Rattle.broker_model.specs.Words.{RequestError, Refused, credential_object, lease_reply, RoleSettings}
use Rattle.broker_model.specs.Words.{rows_of-other_roles, Tells, KeepsOthers, of_roles, table_of, Rows, ok_inj}
use Rattle.broker_model.specs.Words.{set_role_sound, Issued, role_name, creds, forms, set_role, issue, issued_reply}
use Rattle.broker_model.specs.Words.{Place, at}
use Rattle.broker_types.specs.declared.refusal.Refusal.TheVariants as refusal
use Rattle.broker_types.specs.declared.refusal.Reason.TheVariants as reason
use Rattle.broker_types.specs.declared.request_error.RequestError.TheVariants.{Fault}
use Rattle.leases.specs.Roles as roles
use Rattle.broker_rows.specs.Words.{Represents, answered_of, ActsAs, represents_next, still_represented}
use Rattle.broker_rows.specs.declared.answered.Answered as Code
use Rattle.broker_rows.specs.declared.answered.Answered.TheVariants.{Nothing}
use Rattle.secret_operations.specs.Issuing.{IsLeased}

-- ---- a role that is set

module _ (b : Broker) (who : Option Text) (old new : Rows) (st : Represents who old b) (mount name : Text)
    (asked : RoleSettings) where
  abbrev set : Result Broker Refusal
  set = roles.set_role b mount name (record { ttl = asked.ttl; max_ttl = asked.max_ttl })

  abbrev replaced : Broker
  replaced = record b {
    roles = put b.roles (role_name mount name) (record { ttl = asked.ttl; max_ttl = asked.max_ttl });
  }

  abbrev silently : Result Broker Refusal → Result Done Refusal
  silently m = m >>= (λ next. Ok (plainly nothing next))

  -- one that is refused leaves the broker as it was
  pub acts_not_set : (e : RequestError) → EndsErr (new ≡ old) e set
      → ActsAs who b new (Err e) (set_role b (at mount name) asked)
  acts_not_set e ends = by e set ends
    where
      by : (e : RequestError) (m : Result Broker Refusal) → EndsErr (new ≡ old) e m
          → ActsAs who b new (Err e) (silently m)
      by (Refused r) (Ok next) h = absurd h
      by (Refused r) (Err x) h = (h.0, still_represented b old new h.1 st)
      by (Fault f) m h = h

  -- another is in place of the one that was there
  pub acts_set : EndsOk (λ (_ : ⊤) next. Tells of_roles (table_of new) next) tt set
      → KeepsOthers of_roles (table_of old) (table_of new)
      → is_mount_name mount ≡ true → asked.ttl ≤ longest_duration → asked.max_ttl ≤ longest_duration
      → ActsAs who b new (Ok Nothing) (set_role b (at mount name) asked)
  acts_set ends keeps is_mount ttl max_ttl = by set refl ends
    where
      represents-set : (next : Broker) → set ≡ Ok next → Tells of_roles (table_of new) next → Represents who new next
      represents-set next is tells =
          let sound = set_role_sound forms who b st.sound next mount name
          (record { ttl = asked.ttl; max_ttl = asked.max_ttl }) is_mount ttl max_ttl is in
          let named = ok_step (unless (is_name name) (refusal.BadRequest reason.InvalidName)) _ next is in
          let same = ok_inj named.2 in
          subst (λ next. Represents who new next) same
          (represents_next of_roles b replaced old new st (subst (λ next. Sound forms who next) (sym same) sound)
          (rows_of-other_roles b replaced.roles)
          (subst (λ next. Tells of_roles (table_of new) next) (sym same) tells) keeps)

      by : (m : Result Broker Refusal) → set ≡ m → EndsOk (λ (_ : ⊤) next. Tells of_roles (table_of new) next) tt m
          → ActsAs who b new (Ok Nothing) (silently m)
      by (Err r) is h = absurd h
      by (Ok next) is h = (refl, represents-set next is h)

-- ---- a credential that is issued

module _ (b : Broker) (c : Text) (new : Rows) (names : Names) (p : Place) where
  abbrev outcome : Result Issued Refusal
  outcome = creds b c p.mount p.path names.lease names.credential

  abbrev shown : Result Issued Refusal → Result Done Refusal
  shown m = m >>= (λ i. Ok (issued_reply names i))

  -- one that is refused leaves the broker as it was
  pub acts_not_issued : (e : RequestError) → EndsErr (Represents (Some c) new b) e outcome
      → ActsAs (Some c) b new (Err e) (issue b c names p)
  acts_not_issued e ends = by e outcome ends
    where
      by : (e : RequestError) (m : Result Issued Refusal) → EndsErr (Represents (Some c) new b) e m
          → ActsAs (Some c) b new (Err e) (shown m)
      by (Refused r) (Ok i) h = absurd h
      by (Refused r) (Err x) h = h
      by (Fault f) m h = h

  -- another is answered with its lease
  pub acts_issued : (l : Text × ℕ) (x : Code.Answered) → EndsOk (IsLeased c new names.lease names.credential) l outcome
      → answered_of x ≡ reply (lease_reply names.request l.0 l.1 (Some (credential_object names.credential))) None
      → ActsAs (Some c) b new (Ok x) (issue b c names p)
  acts_issued l x ends answered = by outcome ends
    where
      by : (m : Result Issued Refusal) → EndsOk (IsLeased c new names.lease names.credential) l m
          → ActsAs (Some c) b new (Ok x) (shown m)
      by (Err r) h = absurd h
      by (Ok i) h = (
        answered ∙ ap (λ (l : Text × ℕ). reply
            (lease_reply names.request l.0 l.1 (Some (credential_object names.credential))) None) h.0,
        h.1,
      )

-- what follows from a refusal
pub ends_weaker : {Y P Q : Type 0} → (P → Q) → (e : RequestError) (m : Result Y Refusal) → EndsErr P e m → EndsErr Q e m
ends_weaker f (Refused r) (Ok y) h = absurd h
ends_weaker f (Refused r) (Err x) h = (h.0, f h.1)
ends_weaker f (Fault g) m h = h
