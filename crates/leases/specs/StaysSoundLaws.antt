-- Renewals, the end of leases, and edits of roles leave a sound broker sound, and let it evolve.
use Rattle.std.specs.Prelude.{◌≡◌, ◌≤◌, ◌+◌, if◌then◌else◌, [], ℕ, nat_lt, nat_eq, Bool, true, false, cond, not, Option}
use Rattle.records.specs.Words.{Some, Ok, codes, starts_with, option_map_or, refl, sym, ◌∙◌, ap, subst, append_assoc}
use Rattle.records.specs.Words.{le_trans, min-le_right, add-le-add, same_Some, Text, same, longest_duration, Map, get}
use Rattle.records.specs.Words.{empty, put, without, keep, change, get-put, get-change, without_is, no_entry, is_name}
use Rattle.records.specs.Words.{is_mount_name, mapped, kept_get, same_true, Lease, Broker, Role, Evolves, sound_with}
use Rattle.records.specs.Words.{◌>>=◌, unless, no_ok, Forms, Sound, SoundRoles, IsSoundRole, IsSoundLease, IsMoment}
use Rattle.records.specs.Words.{ok_inj}
use Rattle.broker_types.specs.declared.refusal.Refusal.TheVariants as refusal
use Rattle.broker_types.specs.declared.refusal.Reason.TheVariants as reason
use Rattle.leases.specs.Leases.{edited, renewed, renewed_end, with_renewed, revoke, revoke_under, drop_owner}
use Rattle.leases.specs.Leases.{without_expired, is_under, live}
use Rattle.leases.specs.Roles.{role_name, set_role, remove_role, drop_roles}
use Rattle.leases.specs.SoundLaws.{KeepsPlaces, edited_evolves, edited_is_sound}

-- ---- what takes leases out

-- each lease that is left was there
abbrev TakesOut : (Text → Map Lease → Map Lease) → Type 0
TakesOut edit = (t id : Text) (m : Map Lease) (l : Lease) → get (edit t m) id ≡ Some l → get m id ≡ Some l

module _ (b : Broker) (edit : Text → Map Lease → Map Lease) (takes : TakesOut edit) where
  keeps : KeepsPlaces b edit
  keeps t id m l e = (l, takes t id m l e, refl)

  taken_evolves : Evolves b (edited b edit)
  taken_evolves = edited_evolves b edit keeps

  taken_sound : (forms : Forms) (who : Option Text) → Sound forms who b → Sound forms who (edited b edit)
  taken_sound forms who sound =
      edited_is_sound b edit keeps forms who sound
      (λ t id x l is e. (sound.tokens.each t x is).leases id l (takes t id x.leases l e))

one_out : (id : Text) → TakesOut (λ t m. without m id)
one_out id t q m l e = (without_is m id q l e).1

under_out : (prefix : Text) → TakesOut (λ t m. keep (λ q. not (is_under prefix q)) m)
under_out prefix t q m l e = (kept_get (λ q. not (is_under prefix q)) m q l e).0

owner_out : (t : Text) → TakesOut (λ u m. if same u t then empty else m)
owner_out t u q m l =
    elim (same u t) as (λ v. get (if v then empty else m) q ≡ Some l → get m q ≡ Some l) [
      | true ↦ λ e. absurd (no_entry q l e)
      | false ↦ λ e. e
    ]

expired_out : (now : ℕ) → TakesOut (λ t m. live now m)
expired_out now t q m l e =
    (kept_get (λ q. option_map_or (λ (l : Lease). nat_lt now l.ends) (get m q) false) m q l e).0

module _ (b : Broker) where
  -- the end of a lease lets a broker evolve
  pub revoke_evolves : (id : Text) → Evolves b (revoke b id)
  revoke_evolves id = taken_evolves b (λ t m. without m id) (one_out id)

  -- that of those under a prefix
  pub revoke_under_evolves : (prefix : Text) → Evolves b (revoke_under b prefix)
  revoke_under_evolves prefix = taken_evolves b (λ t m. keep (λ q. not (is_under prefix q)) m) (under_out prefix)

  -- that of a token's
  pub drop_owner_evolves : (t : Text) → Evolves b (drop_owner b t)
  drop_owner_evolves t = taken_evolves b (λ u m. if same u t then empty else m) (owner_out t)

  -- and that of those whose end has come
  pub expired_evolves : (now : ℕ) → Evolves b (without_expired b now)
  expired_evolves now = taken_evolves b (λ t m. live now m) (expired_out now)

module _ (forms : Forms) (who : Option Text) (b : Broker) (sound : Sound forms who b) where
  -- they leave a sound broker sound
  pub revoke_sound : (id : Text) → Sound forms who (revoke b id)
  revoke_sound id = taken_sound b (λ t m. without m id) (one_out id) forms who sound

  pub revoke_under_sound : (prefix : Text) → Sound forms who (revoke_under b prefix)
  revoke_under_sound prefix =
      taken_sound b (λ t m. keep (λ q. not (is_under prefix q)) m) (under_out prefix) forms who sound

  pub drop_owner_sound : (t : Text) → Sound forms who (drop_owner b t)
  drop_owner_sound t = taken_sound b (λ u m. if same u t then empty else m) (owner_out t) forms who sound

  pub expired_sound : (now : ℕ) → Sound forms who (without_expired b now)
  expired_sound now = taken_sound b (λ t m. live now m) (expired_out now) forms who sound

-- ---- renewal

-- never later than its longest time after it was made
pub renewed_bound : (increment now : ℕ) (l : Lease) → renewed_end now increment l ≤ l.issued + l.max_ttl
renewed_bound increment now l = min-le_right _ (l.issued + l.max_ttl)

module _ (b : Broker) (id : Text) (increment : ℕ) where
  abbrev f : Lease → Lease
  f l = renewed b.clock increment l

  abbrev edit : Text → Map Lease → Map Lease
  edit t m = change m id f

  credential_kept : (v : Bool) (l : Lease) → l.credential ≡ (if v then f l else l).credential
  credential_kept true l = refl
  credential_kept false l = refl

  renewal_keeps : KeepsPlaces b edit
  renewal_keeps t q m l e =
      let k = mapped (λ l. if same q id then f l else l) (get m q) l (sym (get-change m id f q) ∙ e) in
      (k.0, k.1, credential_kept (same q id) k.0 ∙ ap (λ (l : Lease). l.credential) (sym k.2))

  -- a renewal lets a broker evolve
  pub renew_evolves : Evolves b (with_renewed b id increment)
  renew_evolves = edited_evolves b edit renewal_keeps

  module _ (forms : Forms) (who : Option Text) (sound : Sound forms who b) where
    lease_sound : (q : Text) (l : Lease) → IsSoundLease q l → IsSoundLease q (f l)
    lease_sound q l s = record {
      name = s.name;
      issued = s.issued;
      ttl = s.ttl;
      max_ttl = s.max_ttl;
      ends = le_trans (renewed_bound increment b.clock l) (add-le-add s.issued s.max_ttl);
      renewed = λ m e. subst IsMoment (same_Some _ _ e) sound.clock;
      credential = s.credential;
    }

    either_sound : (q : Text) (v : Bool) (l : Lease) → IsSoundLease q l → IsSoundLease q (if v then f l else l)
    either_sound q true l s = lease_sound q l s
    either_sound q false l s = s

    -- and leaves a sound one sound
    pub renew_sound : Sound forms who (with_renewed b id increment)
    renew_sound =
        edited_is_sound b edit renewal_keeps forms who sound (λ t q x l is e.
        let k = mapped (λ l. if same q id then f l else l) (get x.leases q) l (sym (get-change x.leases id f q) ∙ e) in
        subst (IsSoundLease q) (sym k.2)
        (either_sound q (same q id) k.0 ((sound.tokens.each t x is).leases q k.0 k.1)))

-- ---- roles

module _ (forms : Forms) (who : Option Text) (b : Broker) (sound : Sound forms who b) where
  with_roles : (roles : Map Role) → SoundRoles roles → Sound forms who (record b { roles = roles })
  with_roles roles good =
      sound_with b b.clock b.secrets b.mounts roles b.policies forms who sound sound.clock sound.secrets sound.mounts
      good sound.policies

  put_sound : (q : Text) (r : Role) → IsSoundRole q r → SoundRoles (put b.roles q r)
  put_sound q r good n x e =
      elim (same n q) as (λ v. same n q ≡ v → cond v (Some r) (get b.roles n) ≡ Some x → IsSoundRole n x) [
        | true ↦ λ at is.
            subst (λ z. IsSoundRole z x) (sym (same_true n q at)) (subst (IsSoundRole q) (same_Some _ _ is) good)
        | false ↦ λ _ is. sound.roles n x is
      ] refl (sym (get-put b.roles q r n) ∙ e)

  -- a role that is set leaves a sound broker sound
  pub set_role_sound : (next : Broker) (mount name : Text) (r : Role) → is_mount_name mount ≡ true
      → r.ttl ≤ longest_duration → r.max_ttl ≤ longest_duration → set_role b mount name r ≡ Ok next
      → Sound forms who next
  set_role_sound next mount name r good ttl max_ttl h =
      elim (is_name name) as (λ v. is_name name ≡ v → (unless v (refusal.BadRequest reason.InvalidName)
      >>= (λ _. Ok (record b { roles = put b.roles (role_name mount name) r }))) ≡ Ok next → Sound forms who next) [
        | false ↦ λ _ k. no_ok k
        | true ↦ λ named k.
            subst (Sound forms who) (ok_inj k) (with_roles (put b.roles (role_name mount name) r)
            (put_sound (role_name mount name) r (record {
              mount = mount;
              role = name;
              mount_name = good;
              role_name = named;
              parts = sym (append_assoc mount (codes "/") name);
              ttl = ttl;
              max_ttl = max_ttl;
            })))
      ] refl h

  -- and so does one that is removed
  pub remove_role_sound : (mount name : Text) → Sound forms who (remove_role b mount name)
  remove_role_sound mount name =
      with_roles (without b.roles (role_name mount name))
      (λ n x e. sound.roles n x (without_is b.roles (role_name mount name) n x e).1)

  -- and those of a mount that are dropped
  pub drop_roles_sound : (mount : Text) → Sound forms who (drop_roles b mount)
  drop_roles_sound mount =
      with_roles (keep (λ q. not (starts_with nat_eq q (role_name mount []))) b.roles)
      (λ n x e. sound.roles n x (kept_get (λ q. not (starts_with nat_eq q (role_name mount []))) b.roles n x e).0)
