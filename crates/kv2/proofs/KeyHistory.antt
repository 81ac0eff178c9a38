-- What stays of a key from one operation to the next.
use Rattle.std.proofs.Common.{◌≡◌, ◌≢◌, ◌≤◌, ◌+◌, ◌-◌, ◌==◌, if◌then◌else◌, ℕ, List, nat_lt, Bool, true, false, cond}
use Rattle.records.specs.Words.{Option, Some, None, option_map, is_none, Ok, nat_eq, [], not, map, starts_with}
use Rattle.records.specs.Words.{option_map_or, nat_cmp, refl, sym, ◌∙◌, ap, subst, arith, eqb-true, none-some, Text}
use Rattle.records.specs.Words.{text_cmp, same, same_self, get, entries, get-put, get-put_self, get-change, get-without}
use Rattle.records.specs.Words.{get-keep, entries-empty, mapped, Key, Version, Broker, Forms, SoundSecrets}
use Rattle.records.specs.Words.{is_ascending, listed_entries}
use Rattle.std.specs.FinMap as fin
use Rattle.kv2.specs.Words.{last_number, version_at, HasNoSecret, custom_metadata_at, Written, secret_name, key_at}
use Rattle.kv2.specs.Words.{with_key, write, set_metadata, remove_key, drop_mount, write_is, get-change_versions}
use Rattle.kv2.specs.Words.{next_versions, Settings, version_of, key_or_new, new_version, with_version, with_changed}
use Rattle.kv2.specs.Words.{is_among, versions_kept, described, soft_deleted, restored, destroyed}

-- ---- changes of versions

module _ (b : Broker) (mount path : Text) (f : Version → Version) (numbers : Key → List ℕ) where
  abbrev name : Text
  name = secret_name mount path

  abbrev next : Broker
  next = with_key b mount path (λ k. with_changed f (numbers k) k)

  key_after : key_at next mount path ≡ option_map (λ k. with_changed f (numbers k) k) (get b.secrets name)
  key_after = get-change b.secrets name (λ k. with_changed f (numbers k) k) name
      ∙ ap (λ v. option_map (λ k. if v then with_changed f (numbers k) k else k) (get b.secrets name)) (same_self name)

  pub number_stays : last_number next mount path ≡ last_number b mount path
  number_stays = ap (λ o. option_map_or (λ (k : Key). k.current) o 0) key_after ∙ inner (get b.secrets name)
    where
      inner : (o : Option Key) → option_map_or (λ (k : Key). k.current)
          (option_map (λ k. with_changed f (numbers k) k) o) 0
          ≡ option_map_or (λ (k : Key). k.current) o 0
      inner None = refl
      inner (Some k) = refl

  still : (o : Option Key) → option_map (λ k. k) o ≡ o
  still None = refl
  still (Some k) = refl

  pub other_stays : (q : Text) → same q name ≡ false → get next.secrets q ≡ get b.secrets q
  other_stays q apart =
      get-change b.secrets name (λ k. with_changed f (numbers k) k) q
      ∙ ap (λ v. option_map (λ k. if v then with_changed f (numbers k) k else k) (get b.secrets q)) apart
      ∙ still (get b.secrets q)

  pub nothing_restored : ((v : Version) → v.secret ≡ None → (f v).secret ≡ None) → (n : ℕ)
      → HasNoSecret (version_at b mount path n)
      → HasNoSecret (version_at next mount path n)
  nothing_restored keeps n h v e = inner (get b.secrets name) refl (sym (ap (λ o. version_of o n) key_after) ∙ e)
    where
      inner : (o : Option Key) → get b.secrets name ≡ o
          → version_of (option_map (λ k. with_changed f (numbers k) k) o) n ≡ Some v → v.secret ≡ None
      inner None is g = absurd (none-some _ g)
      inner (Some k) is g =
          let x = mapped (λ v. if is_among (numbers k) n then f v else v) (fin.get k.versions n) v
          (sym (get-change_versions f (is_among
          (numbers k)) k.versions n) ∙ g) in
          let gone : x.0.secret ≡ None = h x.0 (ap (λ o. version_of o n) is ∙ x.1) in
          subst (λ (z : Version). z.secret ≡ None) (sym x.2)
          (elim (is_among (numbers k) n) as (λ p. (if p then f x.0 else x.0).secret ≡ None) [
            | true ↦ keeps x.0 gone
            | false ↦ gone
          ])

  pub metadata_stay : custom_metadata_at next mount path ≡ custom_metadata_at b mount path
  metadata_stay = ap (λ o. option_map_or (λ (k : Key). entries k.custom_metadata) o []) key_after
      ∙ inner (get b.secrets name)
    where
      inner : (o : Option Key) → option_map_or (λ (k : Key). entries k.custom_metadata)
          (option_map (λ k. with_changed f (numbers k) k) o) []
          ≡ option_map_or (λ (k : Key). entries k.custom_metadata) o []
      inner None = refl
      inner (Some k) = refl

-- ---- settings

module _ (b : Broker) (mount path : Text) (given : Settings) where
  abbrev own : Text
  own = secret_name mount path

  abbrev described_key : Key
  described_key = described b.clock given (key_or_new b.clock (get b.secrets own))

  there : key_at (set_metadata b mount path given) mount path ≡ Some described_key
  there = get-put_self b.secrets own described_key

  pub number_kept : last_number (set_metadata b mount path given) mount path ≡ last_number b mount path
  number_kept = ap (λ o. option_map_or (λ (k : Key). k.current) o 0) there ∙ inner (get b.secrets own)
    where
      inner : (o : Option Key) → (key_or_new b.clock o).current ≡ option_map_or (λ (k : Key). k.current) o 0
      inner None = refl
      inner (Some k) = refl

  pub others_kept : (q : Text) → same q own ≡ false → get (set_metadata b mount path given).secrets q ≡ get b.secrets q
  others_kept q apart = get-put b.secrets own described_key q
      ∙ ap (λ v. cond v (Some described_key) (get b.secrets q)) apart

  pub versions_kept_as_they_were : (n : ℕ) → version_at (set_metadata b mount path given) mount path n
      ≡ version_at b mount path n
  versions_kept_as_they_were n = ap (λ o. version_of o n) there ∙ inner (get b.secrets own)
    where
      inner : (o : Option Key) → version_of (Some (described b.clock given (key_or_new b.clock o))) n ≡ version_of o n
      inner None = fin.get-empty nat_cmp n
      inner (Some k) = refl

  pub nothing_brought_back : (n : ℕ) → HasNoSecret (version_at b mount path n)
      → HasNoSecret (version_at (set_metadata b mount path given) mount path n)
  nothing_brought_back n h v e = h v (sym (versions_kept_as_they_were n) ∙ e)

  pub metadata_replaced : (es : List (Text × Text)) → given.custom_metadata ≡ Some es
      → is_ascending (map (λ e. e.0) es) ≡ true
      → custom_metadata_at (set_metadata b mount path given) mount path ≡ es
  metadata_replaced es is ascend =
      ap (λ o. option_map_or (λ (k : Key). entries k.custom_metadata) o []) there
      ∙ ap (λ o. entries (option_map_or (fin.from_entries {R = text_cmp}) o
      (key_or_new b.clock (get b.secrets own)).custom_metadata)) is
      ∙ listed_entries es ascend

  pub metadata_kept : given.custom_metadata ≡ None
      → custom_metadata_at (set_metadata b mount path given) mount path ≡ custom_metadata_at b mount path
  metadata_kept is =
      ap (λ o. option_map_or (λ (k : Key). entries k.custom_metadata) o []) there
      ∙ ap (λ o. entries (option_map_or (fin.from_entries {R = text_cmp}) o
      (key_or_new b.clock (get b.secrets own)).custom_metadata)) is
      ∙ inner (get b.secrets own)
    where
      inner : (o : Option Key) → entries (key_or_new b.clock o).custom_metadata
          ≡ option_map_or (λ (k : Key). entries k.custom_metadata) o []
      inner None = entries-empty
      inner (Some k) = refl

pub deleted_gone : (now : ℕ) (v : Version) → v.secret ≡ None → (soft_deleted now v).secret ≡ None
deleted_gone now v e = elim (is_none v.deleted) as
    (λ p. (if p then record v { deleted = Some now } else v).secret ≡ None) [
      | true ↦ e
      | false ↦ e
    ]

pub restored_gone : (v : Version) → v.secret ≡ None → (restored v).secret ≡ None
restored_gone v e = elim (is_none v.secret) as (λ p. (if p then v else record v { deleted = None }).secret ≡ None) [
  | true ↦ e
  | false ↦ e
]

pub destroyed_gone : (v : Version) → v.secret ≡ None → (destroyed v).secret ≡ None
destroyed_gone v e = refl

-- ---- removals

pub removed_apart : (b : Broker) (mount path q : Text) → same q (secret_name mount path) ≡ false
    → get (remove_key b mount path).secrets q ≡ get b.secrets q
removed_apart b mount path q apart =
    get-without b.secrets (secret_name mount path) q ∙ ap (λ v. cond v None (get b.secrets q)) apart

pub dropped_apart : (b : Broker) (mount q : Text) → starts_with nat_eq q (secret_name mount []) ≡ false
    → get (drop_mount b mount).secrets q ≡ get b.secrets q
dropped_apart b mount q apart =
    get-keep (λ q. not (starts_with nat_eq q (secret_name mount []))) b.secrets q
    ∙ ap (λ v. cond (not v) (get b.secrets q) None) apart

-- ---- a write

module _ (b : Broker) (mount path : Text) (cas : Option ℕ) (object : Text) (w : Written)
    (is : write b mount path cas object ≡ Ok w) where
  abbrev at : Text
  at = secret_name mount path

  abbrev over : Key
  over = key_or_new b.clock (get b.secrets at)

  last_is : (o : Option Key) → (key_or_new b.clock o).current ≡ option_map_or (λ (k : Key). k.current) o 0
  last_is None = refl
  last_is (Some k) = refl

  pub new_number : (w.number ≡ last_number b mount path + 1) × (last_number w.next mount path ≡ w.number)
  new_number =
      let x = write_is b mount path cas object w is in (
        ap (λ (z : Written). z.number) x.3 ∙ ap (λ n. n + 1) (last_is (get b.secrets at)),
        ap (λ (z : Written). last_number z.next mount path) x.3
            ∙ ap (λ o. option_map_or (λ (k : Key). k.current) o 0)
            (get-put_self b.secrets at (with_version b.clock (versions_kept x.0 over) object over))
            ∙ sym (ap (λ (z : Written). z.number) x.3),
      )

  pub metadata_stay_at_write : custom_metadata_at w.next mount path ≡ custom_metadata_at b mount path
  metadata_stay_at_write =
      let x = write_is b mount path cas object w is in
      ap (λ (z : Written). custom_metadata_at z.next mount path) x.3
      ∙ ap (λ o. option_map_or (λ (k : Key). entries k.custom_metadata) o [])
      (get-put_self b.secrets at (with_version b.clock (versions_kept x.0 over) object over))
      ∙ of_new (get b.secrets at)
    where
      of_new : (o : Option Key) → entries (key_or_new b.clock o).custom_metadata
          ≡ option_map_or (λ (k : Key). entries k.custom_metadata) o []
      of_new None = entries-empty
      of_new (Some k) = refl

  pub others_stay : (q : Text) → same q at ≡ false → get w.next.secrets q ≡ get b.secrets q
  others_stay q apart =
      let x = write_is b mount path cas object w is in
      let k = with_version b.clock (versions_kept x.0 over) object over in
      ap (λ (z : Written). get z.next.secrets q) x.3 ∙ get-put b.secrets at k q
      ∙ ap (λ v. cond v (Some k) (get b.secrets q)) apart

  -- a version that is there is not above the current one
  old_number : (forms : Forms) → SoundSecrets forms b.secrets → (n : ℕ) (v : Version)
      → version_of (get b.secrets at) n ≡ Some v → n ≤ over.current
  old_number forms sound n v =
      elim (get b.secrets at) as (λ o. get b.secrets at ≡ o → version_of o n ≡ Some v
      → n ≤ (key_or_new b.clock o).current) [
        | None ↦ λ _ e. absurd (none-some _ e)
        | Some k ↦ λ some e. ((sound at k some).versions n v e).last
      ] refl

  pub write_restores_nothing : (forms : Forms) (n : ℕ) → SoundSecrets forms b.secrets → version_at b mount path n ≢ None
      → HasNoSecret (version_at b mount path n) → HasNoSecret (version_at w.next mount path n)
  write_restores_nothing forms n sound there h v e =
      let x = write_is b mount path cas object w is in
      let limit = versions_kept x.0 over in
      let k = with_version b.clock limit object over in
      by (nat_lt (over.current + 1 - limit) n) (n == over.current + 1) refl
      (sym (next_versions b.clock limit object (get b.secrets at) n)
      ∙ sym (ap (λ o. version_of o n) (get-put_self b.secrets at k))
      ∙ sym (ap (λ (z : Written). version_at z.next mount path n) x.3) ∙ e)
    where
      too_high : (o : Option Version) → version_of (get b.secrets at) n ≡ o → n ≡ over.current + 1 → ⊥
      too_high None gone above = there gone
      too_high (Some v) here above = let low = old_number forms sound n v here in omega (arith, low, above)

      by : (a c : Bool) → (n == over.current + 1) ≡ c
          → cond a (cond c (Some (new_version b.clock object)) (version_of (get b.secrets at) n)) None ≡ Some v
          → v.secret ≡ None
      by false c same g = absurd (none-some _ g)
      by true true same g =
          absurd (too_high (version_of (get b.secrets at) n) refl (eqb-true n (over.current + 1) same))
      by true false same g = h v g
