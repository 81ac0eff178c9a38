-- From rows that changes of mounts left to the brokers that they represent.
use Rattle.std.proofs.Common.{◌≡◌, if◌then◌else◌, Bool, true, false, cond, Option, Some, None, is_some, Result, Ok, Err}
use Rattle.broker_model.specs.Words.{⊤, refl, sym, ◌∙◌, ap, subst, false≢true, true≢false, Broker, Mount, Map, get}
use Rattle.broker_model.specs.Words.{without, get-without, is_mount_name, nothing, Done, plainly, ◌>>=◌, EndsOk}
use Rattle.broker_model.specs.Words.{EndsErr, Sound, Text, same, same_true, Refusal, RequestError, Refused}
use Rattle.broker_model.specs.Words.{rows_of-other_mounts, rows_of-other_secrets, rows_of-other_roles, Tells}
use Rattle.broker_model.specs.Words.{KeepsOthers, of_mounts, of_secrets, of_roles, of_leases, table_of, Rows}
use Rattle.broker_model.specs.Words.{drop_mount, drop_mount_sound, drop_roles_sound, revoke_under_sound}
use Rattle.broker_model.specs.Words.{RepresentsLeases, revoke_under, drop_roles, shows_in_leases, AreMounts, IsMountAt}
use Rattle.broker_model.specs.Words.{disabled_sound, told_mounts, forms, without_kept, disable}
use Rattle.broker_types.specs.declared.request_error.RequestError.TheVariants.{Fault}
use Rattle.mounts.specs.Mounts as mounts
use Rattle.broker_rows.specs.Words.{ActsAs, Represents, represents_next, represents_leases, still_represented}
use Rattle.broker_rows.specs.declared.answered.Answered.TheVariants.{Nothing}

-- ---- a mount that comes

module _ (b : Broker) (who : Option Text) (old new : Rows) (st : Represents who old b) where
  represents-mounts : (next : Map Mount) → Sound forms who (record b { mounts = next }) → AreMounts (table_of new) next
      → KeepsOthers of_mounts (table_of old) (table_of new) → Represents who new (record b { mounts = next })
  represents-mounts next sound are keeps =
      represents_next of_mounts b (record b { mounts = next }) old new st sound (rows_of-other_mounts b next)
      (told_mounts (table_of new) (record b { mounts = next }) are) keeps

  -- a change that is made leaves the mounts that it says
  pub acts_enabled : {X : Type 0} (x : X) (m : Result (Map Mount) Refusal)
      → ((next : Map Mount) → m ≡ Ok next → Sound forms who (record b { mounts = next }))
      → EndsOk (λ (_ : X) next. AreMounts (table_of new) next) x m → KeepsOthers of_mounts (table_of old) (table_of new)
      → ActsAs who b new (Ok Nothing) (m >>= (λ next. Ok (plainly nothing (record b { mounts = next }))))
  acts_enabled x (Ok next) sound are keeps = (refl, represents-mounts next (sound next refl) are keeps)
  acts_enabled x (Err r) sound are keeps = absurd are

  -- one that is refused leaves the broker as it was
  pub acts_refused : (f : Map Mount → Done) (m : Result (Map Mount) Refusal) (e : RequestError)
      → EndsErr (new ≡ old) e m → ActsAs who b new (Err e) (m >>= (λ next. Ok (f next)))
  acts_refused f (Ok next) (Refused r) h = absurd h
  acts_refused f (Err x) (Refused r) h = (h.0, still_represented b old new h.1 st)
  acts_refused f m (Fault x) h = h

-- ---- a mount that goes

none_there : {X : Type 0} (o : Option X) → false ≡ is_some o → o ≡ None
none_there None h = refl
none_there (Some x) h = absurd (false≢true h)

some_there : {X : Type 0} (o : Option X) → true ≡ is_some o → (x : X) × (o ≡ Some x)
some_there None h = absurd (true≢false h)
some_there (Some x) h = (x, refl)

-- mounts without one that was not there
without_absent : (ms : Map Mount) (name q : Text) → get ms name ≡ None → get (without ms name) q ≡ get ms q
without_absent ms name q none = get-without ms name q ∙ by (same q name) refl
  where
    by : (v : Bool) → same q name ≡ v → cond v None (get ms q) ≡ get ms q
    by false _ = refl
    by true is = sym (ap (get ms) (same_true q name is) ∙ none)

module _ (b : Broker) (who : Option Text) (old mid : Rows) (st : Represents who old b) (name : Text) where
  abbrev after : Bool → Map Mount → Broker
  after there next = if there then without_kept (record b { mounts = next }) name else b

  abbrev done : Result (Map Mount) Refusal → Result Done Refusal
  done m = m >>= (λ next. Ok (plainly nothing (after (is_some (get b.mounts name)) next)))

  -- what the code answers is whether the mount was there, and the rows are those of the mounts that are left
  abbrev pub IsDisabled : Bool → Map Mount → Type 0
  IsDisabled was next = (was ≡ is_some (get b.mounts name)) × AreMounts (table_of mid) next

  -- where there was no mount of the name, nothing happens
  pub acts_absent : EndsOk IsDisabled false (mounts.disabled b.mounts name)
      → KeepsOthers of_mounts (table_of old) (table_of mid) → ActsAs who b mid (Ok Nothing) (disable b name)
  acts_absent ends keeps = by (mounts.may_go name) ends
    where
      by : (go : Result ⊤ Refusal) → EndsOk IsDisabled false (go >>= (λ _. Ok (without b.mounts name)))
          → ActsAs who b mid (Ok Nothing) (done (go >>= (λ _. Ok (without b.mounts name))))
      by (Err r) h = absurd h
      by (Ok x) h =
          let none = none_there (get b.mounts name) h.0 in
          let are : AreMounts (table_of mid) b.mounts =
          λ q. subst (IsMountAt (table_of mid) q) (without_absent b.mounts name q none) (h.1 q) in
          subst (λ v. ActsAs who b mid (Ok Nothing) (Ok (plainly nothing (after v (without b.mounts name))))) h.0 (
            refl,
            represents_next of_mounts b b old mid st st.sound (λ k q _. refl) (told_mounts (table_of mid) b are) keeps,
          )

  -- where there was one, it has gone, and what is kept under its name has not yet
  pub record IsGone : Type 0 where
    pub next : Map Mount
    pub is : mounts.disabled b.mounts name ≡ Ok next
    pub there : true ≡ is_some (get b.mounts name)
    pub named : is_mount_name name ≡ true
    pub represents : Represents who mid (record b { mounts = next })

  pub is_gone : EndsOk IsDisabled true (mounts.disabled b.mounts name)
      → KeepsOthers of_mounts (table_of old) (table_of mid) → IsGone
  is_gone ends keeps = by (mounts.disabled b.mounts name) refl ends
    where
      by : (m : Result (Map Mount) Refusal) → mounts.disabled b.mounts name ≡ m → EndsOk IsDisabled true m → IsGone
      by (Err r) is h = absurd h
      by (Ok next) is h =
          let m = some_there (get b.mounts name) h.0 in
          record {
            next = next;
            is = is;
            there = h.0;
            named = (st.sound.mounts name m.0 m.1).mount_name;
            represents = represents-mounts b who old mid st next (disabled_sound b next forms who name st.sound is)
                h.1 keeps;
          }

  -- once that has gone too, the mount is disabled
  pub acts_disabled : (new : Rows) (gone : IsGone)
      → Represents who new (without_kept (record b { mounts = gone.next }) name)
      → ActsAs who b new (Ok Nothing) (disable b name)
  acts_disabled new gone left =
      subst (λ m. ActsAs who b new (Ok Nothing) (done m)) (sym gone.is)
      (subst (λ v. ActsAs who b new (Ok Nothing) (Ok (plainly nothing (after v gone.next)))) gone.there (refl, left))

-- ---- what is kept under its name

module _ (b : Broker) (who : Option Text) (old new : Rows) (st : Represents who old b) (name : Text) where
  -- secrets go
  pub represents-no_secrets : Tells of_secrets (table_of new) (drop_mount b name)
      → KeepsOthers of_secrets (table_of old) (table_of new) → Represents who new (drop_mount b name)
  represents-no_secrets tells keeps =
      represents_next of_secrets b (drop_mount b name) old new st (drop_mount_sound forms who b st.sound name name)
      (rows_of-other_secrets b (drop_mount b name).secrets) tells keeps

  -- roles go
  pub represents-no_roles : Tells of_roles (table_of new) (drop_roles b name)
      → KeepsOthers of_roles (table_of old) (table_of new) → Represents who new (drop_roles b name)
  represents-no_roles tells keeps =
      represents_next of_roles b (drop_roles b name) old new st (drop_roles_sound forms who b st.sound name)
      (rows_of-other_roles b (drop_roles b name).roles) tells keeps

  -- leases go
  pub represents-no_leases : Tells of_leases (table_of new) (revoke_under b name)
      → KeepsOthers of_leases (table_of old) (table_of new) → Represents who new (revoke_under b name)
  represents-no_leases tells keeps =
      represents_next of_leases b (revoke_under b name) old new st (revoke_under_sound forms who b st.sound name)
      (shows_in_leases b _) tells keeps

-- rows that are a broker's are those of its leases
pub leases_there : {who : Option Text} (b : Broker) (rows : Rows) → Represents who rows b
    → RepresentsLeases (table_of rows) b
leases_there b rows st = represents_leases b rows rows st (λ k q _. refl)
