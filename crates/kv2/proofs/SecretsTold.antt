-- What the rows of a sound broker's secrets and mounts say.
use Rattle.std.proofs.Common.{◌≡◌, ◌≤◌, ◌<◌, ◌^◌, ℕ, Option, Some, None, is_some, option_map, option_and_then, refl, ap}
use Rattle.std.specs.FinMap as fin
use Rattle.records.specs.Words.{sym, ◌∙◌, subst, arith, inl, inr, cases_lt, none-some, Text, greatest_version, Map, get}
use Rattle.records.specs.Words.{mapped, Key, Version, Broker, Forms, SoundSecrets, SoundMounts, IsSecretName, key_entry}
use Rattle.records.specs.Words.{of_secrets, of_mounts, Tells, key_in_range, version_in_range, IsKeyInRange, key_row}
use Rattle.records.specs.Words.{key_entry_row, version_row, rows_of, padded, version_row_of, version_at, version_key}
use Rattle.records.specs.Words.{line_feed, split_once, Table, none_of, mount_rows}
use Rattle.records.specs.declared.kind.Kind.TheVariants as kind
use Rattle.kv2.specs.Words.{HasKey, HasVersion, HasMount, version_of}
use Rattle.kv2.proofs.Digits.{KeyLaws, untold}

-- ---- the rows of a broker, kind by kind

pub key_rows : (b : Broker) (q : Text) → rows_of b kind.KvKey q ≡ option_map key_row (get b.secrets q)
unfolding rows_of
key_rows b q = refl

pub version_rows : (b : Broker) (q : Text)
    → rows_of b kind.KvVersion q ≡ option_and_then (version_at b.secrets) (split_once line_feed q)
unfolding rows_of
version_rows b q = refl

pub version_row_of-some : (o : Option Key) (n : ℕ) → version_row_of o (Some n) ≡ option_map version_row (version_of o n)
version_row_of-some None n = refl
version_row_of-some (Some k) n = refl

-- there is a row where the broker has a key
pub key_there : (t : Table) (b : Broker) (name : Text) → Tells of_secrets t b
    → is_some (t kind.KvKey name) ≡ is_some (get b.secrets name)
key_there t b name told = ap is_some (told kind.KvKey name refl ∙ key_rows b name) ∙ of_key (get b.secrets name)
  where
    of_key : (o : Option Key) → is_some (option_map key_row o) ≡ is_some o
    of_key None = refl
    of_key (Some k) = refl

-- each row of a version of a name, where no version is above the greatest
pub version_row_at : (laws : KeyLaws) (s : Map Key) (name : Text) → IsSecretName name
    → ((n : ℕ) (v : Version) → version_of (get s name) n ≡ Some v → n ≤ greatest_version) → (n : ℕ) → n < 2 ^ 64
    → option_and_then (version_at s) (split_once line_feed (version_key name n))
    ≡ option_map version_row (version_of (get s name) n)
version_row_at laws s name is_name few n small =
    ap (option_and_then (version_at s)) (laws.split name (padded n) is_name)
    ∙ elim (cases_lt greatest_version n) [
      | inl above ↦ ap (version_row_of (get s name)) (untold laws n small above)
          ∙ sym (ap (option_map version_row)
          (none_of (version_of (get s name) n) (λ v e. let h = few n v e in absurd (omega (arith, above, h)))))
      | inr within ↦ ap (version_row_of (get s name)) (laws.told n within) ∙ version_row_of-some (get s name) n
    ]

module _ (forms : Forms) (b : Broker) (sound : SoundSecrets forms b.secrets) where
  -- no version is above the greatest
  pub small_number : (name : Text) (n : ℕ) (v : Version) → version_of (get b.secrets name) n ≡ Some v
      → n ≤ greatest_version
  small_number name n v =
      elim (get b.secrets name) as (λ o. get b.secrets name ≡ o → version_of o n ≡ Some v → n ≤ greatest_version) [
        | None ↦ λ _ e. absurd (none-some _ e)
        | Some k ↦ λ is e.
            let s = sound name k is in
            let last : n ≤ k.current = (s.versions n v e).last in
            let current : k.current ≤ greatest_version = s.current in
            omega (arith, last, current)
      ] refl

  module _ (t : Table) (told : Tells of_secrets t b) where
    entry_row : (o : Option Key) → option_map key_row o ≡ option_map key_entry_row (option_map key_entry o)
    entry_row None = refl
    entry_row (Some k) = refl

    -- the key of a name
    pub has_key : (name : Text) → HasKey t name (option_map key_entry (get b.secrets name))
    has_key name = record {
      in_range = λ e is. let k = mapped key_entry (get b.secrets name) e is in
          subst IsKeyInRange (sym k.2) (key_in_range forms name k.0 (sound name k.0 k.1));
      row = told kind.KvKey name refl ∙ key_rows b name ∙ entry_row (get b.secrets name);
    }

    -- a version of a name
    pub has_version : (laws : KeyLaws) (name : Text) (n : ℕ) → IsSecretName name → n < 2 ^ 64
        → HasVersion t name n (version_of (get b.secrets name) n)
    has_version laws name n is_name small = record {
      in_range = λ v is. let k = key_with v is in
          version_in_range forms k.0 n v ((sound name k.0 k.1).versions n v k.2);
      row = told kind.KvVersion (version_key name n) refl ∙ version_rows b (version_key name n)
          ∙ version_row_at laws b.secrets name is_name (small_number name) n small;
    }
      where
        key_with : (v : Version) → version_of (get b.secrets name) n ≡ Some v
            → (k : Key) × (get b.secrets name ≡ Some k) × (fin.get k.versions n ≡ Some v)
        key_with v =
            elim (get b.secrets name)
            as (λ o. get b.secrets name ≡ o → version_of o n ≡ Some v → (k : Key) × (get b.secrets name ≡ Some k)
            × (fin.get k.versions n ≡ Some v)) [
              | None ↦ λ _ e. absurd (none-some _ e)
              | Some k ↦ λ is e. (k, is, e)
            ] refl

-- a mount
pub has_mount : (b : Broker) → SoundMounts b.mounts → (t : Table) → Tells of_mounts t b → (name : Text)
    → HasMount t name (get b.mounts name)
has_mount b sound t told name = record {
  in_range = λ m is. (sound name m is).max_versions;
  row = told kind.Mount name refl ∙ mount_rows b name;
}
