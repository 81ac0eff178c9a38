-- Operations on secrets leave a sound broker sound, and let it evolve.
use Rattle.std.specs.Prelude.{◌≡◌, ◌<◌, ◌≤◌, ◌+◌, ◌-◌, ◌==◌, ◌||◌, ◌∷◌, ◌^◌, if◌then◌else◌, [], ℕ, List, Bool, true, Ok}
use Rattle.records.specs.Words.{false, cond, nat_lt, Option, Some, None, is_none, option_map, unwrap_or, Result, Err, ⊤}
use Rattle.records.specs.Words.{length, All, option_map_or, nat_cmp, refl, sym, ◌∙◌, subst, append_assoc, zero-le, lit<}
use Rattle.records.specs.Words.{le_trans, le_refl, le-add_left, le-add_right, add-one-le, eqb-true, ltb-true, none-some}
use Rattle.records.specs.Words.{same_Some, Text, text_cmp, same, same_true, greatest_version, most_custom_metadata, Map}
use Rattle.records.specs.Words.{get, put, without, keep, change, len, get-put, without_is, get-keep, valued_is}
use Rattle.records.specs.Words.{is_mount_name, ◌>>=◌, some_or, unless, Key, Version, Broker, Mount, Evolves, no_ok}
use Rattle.records.specs.Words.{sound_with, evolves_with, Forms, Sound, SoundSecrets, IsSoundKey, IsSoundVersion}
use Rattle.records.specs.Words.{IsSecretName, IsPathText, IsMoment, IsObjectText, IsSoundMount, IsCustomPair, Refusal}
use Rattle.records.specs.Words.{few_listed, each_listed, IsSomeIn, IsWide, slash, ok_inj}
use Rattle.std.specs.FinMap as fin
use Rattle.broker_types.specs.declared.refusal.Refusal.TheVariants as refusal
use Rattle.broker_types.specs.declared.refusal.Reason.TheVariants as reason
use Rattle.broker_types.specs.declared.refusal.Field.TheVariants as field
use Rattle.kv2.specs.InRange.{AreWithinLimits}
use Rattle.kv2.specs.Secrets.{Written, secret_name, with_key, write, write_over, written, delete, delete_versions}
use Rattle.kv2.specs.Secrets.{undelete, destroy, remove_key, drop_mount, set_config, with_settings, set_metadata}
use Rattle.kv2.specs.VersionLaws.{get-change_versions, next_versions}
use Rattle.kv2.specs.Versions.{version_of, new_version, key_or_new, with_version, versions_kept, with_changed, is_among}
use Rattle.kv2.specs.Versions.{soft_deleted, restored, destroyed, check_and_set, checked, Settings, described}

-- ---- other secrets

module _ (b : Broker) (secrets : Map Key) where
  -- sound secrets leave a sound broker sound
  pub sound_with_secrets : (forms : Forms) (who : Option Text) → SoundSecrets forms secrets → Sound forms who b
      → Sound forms who (record b { secrets = secrets })
  sound_with_secrets forms who sound s =
      sound_with b b.clock secrets b.mounts b.roles b.policies forms who s s.clock sound s.mounts s.roles s.policies

  -- any secrets let a broker evolve
  pub secrets_evolve : Evolves b (record b { secrets = secrets })
  secrets_evolve = evolves_with b b.clock secrets b.mounts b.roles b.policies

-- ---- secrets that are sound again

module _ (forms : Forms) (keys : Map Key) (sound : SoundSecrets forms keys) where
  -- one is put
  pub put_sound : (name : Text) (k : Key) → IsSoundKey forms name k → SoundSecrets forms (put keys name k)
  put_sound name k good q x e =
      elim (same q name) as (λ v. same q name ≡ v → cond v (Some k) (get keys q) ≡ Some x → IsSoundKey forms q x) [
        | true ↦ λ at is.
            subst (λ z. IsSoundKey forms z x) (sym (same_true q name at))
            (subst (IsSoundKey forms name) (same_Some _ _ is) good)
        | false ↦ λ _ is. sound q x is
      ] refl (sym (get-put keys name k q) ∙ e)

  -- one is changed
  pub change_sound : (name : Text) (f : Key → Key)
      → ((q : Text) (k : Key) → IsSoundKey forms q k → IsSoundKey forms q (f k))
      → SoundSecrets forms (change keys name f)
  change_sound name f keeps q y e =
      let x = valued_is (λ q x. if same q name then f x else x) keys q y e in
      subst (IsSoundKey forms q) (sym x.2)
      (elim (same q name) as (λ v. IsSoundKey forms q (if v then f x.0 else x.0)) [
        | true ↦ keeps q x.0 (sound q x.0 x.1)
        | false ↦ sound q x.0 x.1
      ])

  -- one is removed
  pub without_sound : (name : Text) → SoundSecrets forms (without keys name)
  without_sound name q x e = sound q x (without_is keys name q x e).1

  -- some are kept
  pub keep_sound : (p : Text → Bool) → SoundSecrets forms (keep p keys)
  keep_sound p q x e =
      elim (p q) as (λ v. cond v (get keys q) None ≡ Some x → IsSoundKey forms q x) [
        | true ↦ λ is. sound q x is
        | false ↦ λ is. absurd (none-some _ is)
      ] (sym (get-keep p keys q) ∙ e)

-- ---- what each operation does to a sound key

module _ (forms : Forms) (f : Version → Version)
    (keeps : (k : Key) (n : ℕ) (v : Version) → IsSoundVersion forms k n v → IsSoundVersion forms k n (f v)) where
  -- versions changed
  pub changed_key_sound : (ns : List ℕ) (q : Text) (k : Key) → IsSoundKey forms q k
      → IsSoundKey forms q (with_changed f ns k)
  changed_key_sound ns q k s = record {
    name = s.name;
    created = s.created;
    updated = s.updated;
    current = s.current;
    versions = λ n v e. again n v (each n (fin.get k.versions n) refl v
        (sym (get-change_versions f (is_among ns) k.versions n) ∙ e));
    max_versions = s.max_versions;
    few_metadata = s.few_metadata;
    metadata = s.metadata;
  }
    where
      again : (n : ℕ) (v : Version) → IsSoundVersion forms k n v → IsSoundVersion forms (with_changed f ns k) n v
      again n v h =
          record { first = h.first; last = h.last; created = h.created; deleted = h.deleted; secret = h.secret }

      pick : (b : Bool) (n : ℕ) (v : Version) → IsSoundVersion forms k n v
          → IsSoundVersion forms k n (if b then f v else v)
      pick true n v h = keeps k n v h
      pick false n v h = h

      each : (n : ℕ) (o : Option Version) → fin.get k.versions n ≡ o → (v : Version)
          → option_map (λ v. if is_among ns n then f v else v) o ≡ Some v → IsSoundVersion forms k n v
      each n None e v g = absurd (none-some _ g)
      each n (Some w) e v g =
          subst (IsSoundVersion forms k n) (same_Some _ _ g) (pick (is_among ns n) n w (s.versions n w e))

module _ (forms : Forms) where
  -- a version deleted at a moment
  deleted_sound : (now : ℕ) → IsMoment now → (k : Key) (n : ℕ) (v : Version) → IsSoundVersion forms k n v
      → IsSoundVersion forms k n (soft_deleted now v)
  deleted_sound now moment k n v s =
      elim (is_none v.deleted) as (λ b. IsSoundVersion forms k n (if b then record v { deleted = Some now } else v)) [
        | true ↦ record {
          first = s.first;
          last = s.last;
          created = s.created;
          deleted = λ m e. subst IsMoment (same_Some _ _ e) moment;
          secret = s.secret;
        }
        | false ↦ s
      ]

  -- one that is restored
  restored_sound : (k : Key) (n : ℕ) (v : Version) → IsSoundVersion forms k n v
      → IsSoundVersion forms k n (restored v)
  restored_sound k n v s =
      elim (is_none v.secret) as (λ b. IsSoundVersion forms k n (if b then v else record v { deleted = None })) [
        | true ↦ s
        | false ↦ record {
          first = s.first;
          last = s.last;
          created = s.created;
          deleted = λ m e. absurd (none-some _ e);
          secret = s.secret;
        }
      ]

  -- one that is destroyed
  destroyed_sound : (k : Key) (n : ℕ) (v : Version) → IsSoundVersion forms k n v
      → IsSoundVersion forms k n (destroyed v)
  destroyed_sound k n v s = record {
    first = s.first;
    last = s.last;
    created = s.created;
    deleted = s.deleted;
    secret = λ t e. absurd (none-some _ e);
  }

-- ---- a write

-- a write that passed has a number for the version
pub room : (required : Bool) (current : ℕ) (cas : Option ℕ) → checked required current cas ≡ Ok tt
    → current + 1 ≤ greatest_version
room required current cas h =
    elim (check_and_set required current cas) as (λ (r : Result ⊤ Refusal).
    (r >>= (λ _. unless (nat_lt current greatest_version) (refusal.BadRequest (reason.InvalidField field.Version))))
    ≡ Ok tt → current + 1 ≤ greatest_version) [
      | Err e ↦ λ z. no_ok z
      | Ok x ↦ λ z.
          elim (nat_lt current greatest_version) as (λ b. nat_lt current greatest_version ≡ b
          → unless b (refusal.BadRequest (reason.InvalidField field.Version)) ≡ Ok tt
          → current + 1 ≤ greatest_version) [
            | true ↦ λ is _. add-one-le (ltb-true current greatest_version is)
            | false ↦ λ _ y. no_ok y
          ] refl z
    ] h

module _ (b : Broker) (mount path : Text) (cas : Option ℕ) (object : Text) where
  abbrev over : Key
  over = key_or_new b.clock (get b.secrets (secret_name mount path))

  -- what a write that was not refused did
  pub write_is : (w : Written) → write b mount path cas object ≡ Ok w
      → (m : Mount) × (get b.mounts mount ≡ Some m) × (over.current + 1 ≤ greatest_version)
      × (w ≡ written b m (secret_name mount path) object over)
  write_is w h =
      elim (get b.mounts mount) as (λ o. get b.mounts mount ≡ o
      → (some_or refusal.NotFound o >>= (λ m. write_over b m (secret_name mount path) cas object over)) ≡ Ok w
      → (m : Mount) × (get b.mounts mount ≡ Some m) × (over.current + 1 ≤ greatest_version)
      × (w ≡ written b m (secret_name mount path) object over)) [
        | None ↦ λ _ k. no_ok k
        | Some m ↦ λ some k.
            elim (checked (over.cas_required || m.cas_required) over.current cas)
            as (λ r. checked (over.cas_required || m.cas_required) over.current cas ≡ r
            → (r >>= (λ _. Ok (written b m (secret_name mount path) object over))) ≡ Ok w
            → (m : Mount) × (get b.mounts mount ≡ Some m) × (over.current + 1 ≤ greatest_version)
            × (w ≡ written b m (secret_name mount path) object over)) [
              | Err e ↦ λ _ l. no_ok l
              | Ok u ↦ λ passed l. (
                m,
                some,
                room (over.cas_required || m.cas_required) over.current cas passed,
                sym (ok_inj l),
              )
            ] refl k
      ] refl h

-- the name of a mount, a slash and a path
pub is_secret_name : (mount path : Text) → is_mount_name mount ≡ true → IsPathText path
    → IsSecretName (secret_name mount path)
is_secret_name mount path m p = record {
  mount = mount;
  path = path;
  mount_name = m;
  is_path_text = p;
  parts = sym (append_assoc mount (slash ∷ []) path);
}

module _ (forms : Forms) (name : Text) (now : ℕ) (is_name : IsSecretName name) (moment : IsMoment now) where
  -- a key, or a new one
  over_sound : (o : Option Key) → ((k : Key) → o ≡ Some k → IsSoundKey forms name k)
      → IsSoundKey forms name (key_or_new now o)
  over_sound (Some k) sound = sound k refl
  over_sound None sound = record {
    name = is_name;
    created = moment;
    updated = moment;
    current = zero-le;
    versions = λ n v e. absurd (none-some _ (sym (fin.get-empty nat_cmp n) ∙ e));
    max_versions = lit< tt;
    few_metadata = subst (λ n. n ≤ most_custom_metadata) (sym (fin.len-empty text_cmp Text)) zero-le;
    metadata = λ n v e. absurd (none-some _ (sym (fin.get-empty text_cmp n) ∙ e));
  }

  module _ (limit : ℕ) (object : Text) (o : Option Key) (sound : (k : Key) → o ≡ Some k → IsSoundKey forms name k)
      (is_object : IsObjectText forms object) (few : (key_or_new now o).current + 1 ≤ greatest_version) where
    abbrev k : Key
    k = key_or_new now o

    abbrev next : Key
    next = with_version now limit object k

    old_sound : (p : Option Key) → ((k : Key) → p ≡ Some k → IsSoundKey forms name k) → (n : ℕ) (v : Version)
        → version_of p n ≡ Some v → IsSoundVersion forms (key_or_new now p) n v
    old_sound None s n v e = absurd (none-some _ e)
    old_sound (Some k) s n v e = (s k refl).versions n v e

    next_sound : (n : ℕ) (v : Version) → fin.get next.versions n ≡ Some v → IsSoundVersion forms next n v
    next_sound n v e =
        cases (nat_lt (k.current + 1 - limit) n) (n == k.current + 1) refl
        (sym (next_versions now limit object o n) ∙ e)
      where
        cases : (a b : Bool) → (n == k.current + 1) ≡ b
            → cond a (cond b (Some (new_version now object)) (version_of o n)) None ≡ Some v
            → IsSoundVersion forms next n v
        cases false b is f = absurd (none-some _ f)
        cases true true is f =
            let at : n ≡ k.current + 1 = eqb-true n (k.current + 1) is in
            let one : new_version now object ≡ v = same_Some _ _ f in
            subst (IsSoundVersion forms next n) one (record {
              first = subst (λ z. 0 < z) (sym at) (le-add_left 1 k.current);
              last = subst (λ z. z ≤ k.current + 1) (sym at) (le_refl (k.current + 1));
              created = moment;
              deleted = λ m g. absurd (none-some _ g);
              secret = λ t g. subst (IsObjectText forms) (same_Some _ _ g) is_object;
            })
        cases true false is f =
            let h = old_sound o sound n v f in
            record {
              first = h.first;
              last = le_trans h.last (le-add_right k.current 1);
              created = h.created;
              deleted = h.deleted;
              secret = h.secret;
            }

    -- the key after a write
    written_sound : IsSoundKey forms name next
    written_sound =
        let s = over_sound o sound in
        record {
          name = is_name;
          created = s.created;
          updated = moment;
          current = few;
          versions = next_sound;
          max_versions = s.max_versions;
          few_metadata = s.few_metadata;
          metadata = s.metadata;
        }

-- ---- settings of a secret

module _ (forms : Forms) (name : Text) (now : ℕ) (moment : IsMoment now) (given : Settings)
    (within : AreWithinLimits given) where
  -- a key with settings that are within their limits
  described_sound : (k : Key) → IsSoundKey forms name k → IsSoundKey forms name (described now given k)
  described_sound k s = record {
    name = s.name;
    created = s.created;
    updated = moment;
    current = s.current;
    versions = λ n v e. again n v (s.versions n v e);
    max_versions = number given.max_versions within.max_versions;
    few_metadata = few given.custom_metadata within.few_metadata;
    metadata = each given.custom_metadata within.metadata;
  }
    where
      again : (n : ℕ) (v : Version) → IsSoundVersion forms k n v → IsSoundVersion forms (described now given k) n v
      again n v h =
          record { first = h.first; last = h.last; created = h.created; deleted = h.deleted; secret = h.secret }

      number : (o : Option ℕ) → IsSomeIn IsWide o → unwrap_or o k.max_versions < 2 ^ 64
      number None wide = s.max_versions
      number (Some n) wide = wide n refl

      few : (o : Option (List (Text × Text))) → IsSomeIn (λ es. length es ≤ most_custom_metadata) o
          → len (option_map_or fin.from_entries o k.custom_metadata) ≤ most_custom_metadata
      few None h = s.few_metadata
      few (Some es) h = le_trans (few_listed es) (h es refl)

      each : (o : Option (List (Text × Text))) → IsSomeIn (λ es. All (λ e. IsCustomPair e.0 e.1) es) o
          → (n v : Text) → get (option_map_or fin.from_entries o k.custom_metadata) n ≡ Some v → IsCustomPair n v
      each None h = s.metadata
      each (Some es) h = each_listed IsCustomPair es (h es refl)

-- ---- the operations

module _ (forms : Forms) (who : Option Text) (b : Broker) (sound : Sound forms who b) (mount path : Text) where
  -- a write leaves a sound broker sound
  pub write_sound : (cas : Option ℕ) (object : Text) (w : Written) → IsPathText path → IsObjectText forms object
      → write b mount path cas object ≡ Ok w → Sound forms who w.next
  write_sound cas object w is_path is_object h =
      let x = write_is b mount path cas object w h in
      let name = secret_name mount path in
      let is_name = is_secret_name mount path (sound.mounts mount x.0 x.1).mount_name is_path in
      let k = key_or_new b.clock (get b.secrets name) in
      subst (λ (z : Written). Sound forms who z.next) (sym x.3)
      (sound_with_secrets b _ forms who (put_sound forms b.secrets sound.secrets name
      (with_version b.clock (versions_kept x.0 k) object k)
      (written_sound forms name b.clock is_name sound.clock (versions_kept x.0 k) object (get b.secrets name)
      (sound.secrets name) is_object x.2)) sound)

  changes_sound : (f : Version → Version)
      → ((k : Key) (n : ℕ) (v : Version) → IsSoundVersion forms k n v → IsSoundVersion forms k n (f v))
      → (numbers : Key → List ℕ) → Sound forms who (with_key b mount path (λ k. with_changed f (numbers k) k))
  changes_sound f keeps numbers =
      sound_with_secrets b _ forms who (change_sound forms b.secrets sound.secrets (secret_name mount path)
      (λ k. with_changed f (numbers k) k) (λ q k s. changed_key_sound forms f keeps (numbers k) q k s)) sound

  -- so do deletions
  pub delete_sound : Sound forms who (delete b mount path)
  delete_sound = changes_sound (soft_deleted b.clock) (deleted_sound forms b.clock sound.clock) (λ k. k.current ∷ [])

  pub delete_versions_sound : (ns : List ℕ) → Sound forms who (delete_versions b mount path ns)
  delete_versions_sound ns = changes_sound (soft_deleted b.clock) (deleted_sound forms b.clock sound.clock) (λ _. ns)

  pub undelete_sound : (ns : List ℕ) → Sound forms who (undelete b mount path ns)
  undelete_sound ns = changes_sound restored (restored_sound forms) (λ _. ns)

  pub destroy_sound : (ns : List ℕ) → Sound forms who (destroy b mount path ns)
  destroy_sound ns = changes_sound destroyed (destroyed_sound forms) (λ _. ns)

  -- and removals
  pub remove_key_sound : Sound forms who (remove_key b mount path)
  remove_key_sound =
      sound_with_secrets b _ forms who (without_sound forms b.secrets sound.secrets (secret_name mount path)) sound

  pub drop_mount_sound : Sound forms who (drop_mount b mount)
  drop_mount_sound = sound_with_secrets b _ forms who (keep_sound forms b.secrets sound.secrets _) sound

  -- and settings of a secret that are within their limits
  pub set_metadata_sound : (given : Settings) → IsSecretName (secret_name mount path) → AreWithinLimits given
      → Sound forms who (set_metadata b mount path given)
  set_metadata_sound given is_name within =
      let name = secret_name mount path in
      let o = get b.secrets name in
      sound_with_secrets b _ forms who (put_sound forms b.secrets sound.secrets name
      (described b.clock given (key_or_new b.clock o))
      (described_sound forms name b.clock sound.clock given within (key_or_new b.clock o)
      (over_sound forms name b.clock is_name sound.clock o (sound.secrets name)))) sound

-- a write lets a broker evolve; the other operations do by `secrets_evolve`
pub write_evolves : (b : Broker) (mount path : Text) (cas : Option ℕ) (object : Text) (w : Written)
    → write b mount path cas object ≡ Ok w → Evolves b w.next
write_evolves b mount path cas object w h =
    let x = write_is b mount path cas object w h in
    subst (λ (z : Written). Evolves b z.next) (sym x.3) (secrets_evolve b _)

-- ---- settings

module _ (forms : Forms) (who : Option Text) (b : Broker) (sound : Sound forms who b) where
  -- settings that are numbers of 64 bits leave a sound broker sound
  pub set_config_sound : (mount : Text) (cas_required : Option Bool) (max_versions : Option ℕ)
      → ((n : ℕ) → max_versions ≡ Some n → n < 2 ^ 64) → Sound forms who (set_config b mount cas_required max_versions)
  set_config_sound mount cas_required max_versions wide = record {
    clock = sound.clock;
    tokens = sound.tokens;
    secrets = sound.secrets;
    waiting = sound.waiting;
    mounts = λ q y e.
        let x = valued_is (λ q m. if same q mount then with_settings cas_required max_versions m else m) b.mounts q y
        e in
        subst (IsSoundMount q) (sym x.2)
        (elim (same q mount) as (λ v. IsSoundMount q (if v then with_settings cas_required max_versions x.0 else x.0)) [
          | true ↦ record {
            mount_name = (sound.mounts q x.0 x.1).mount_name;
            max_versions = given max_versions wide x.0.max_versions (sound.mounts q x.0 x.1).max_versions;
          }
          | false ↦ sound.mounts q x.0 x.1
        ]);
    roles = sound.roles;
    policies = sound.policies;
    identifiers = record {
      used = sound.identifiers.used;
      one_place = sound.identifiers.one_place;
      all_used = sound.identifiers.all_used;
      origins_used = sound.identifiers.origins_used;
    };
    unspent = sound.unspent;
  }
    where
      given : (o : Option ℕ) → ((n : ℕ) → o ≡ Some n → n < 2 ^ 64) → (kept : ℕ) → kept < 2 ^ 64
          → unwrap_or o kept < 2 ^ 64
      given None wide kept small = small
      given (Some n) wide kept small = wide n refl

-- any settings let a broker evolve
pub settings_evolve : (b : Broker) (mounts : Map Mount) → Evolves b (record b { mounts = mounts })
settings_evolve b mounts = evolves_with b b.clock b.secrets mounts b.roles b.policies
