-- Secrets removed and changed, and mounts: their rows are those of the next broker.
use Rattle.std.proofs.Common.{◌≡◌, if◌then◌else◌, [], ℕ, not, nat_eq, Bool, true, false, cond, Option, Some, None, refl}
use Rattle.records.specs.Words.{option_map, starts_with, sym, ◌∙◌, ap, Text, same, Map, get, without, keep, change}
use Rattle.records.specs.Words.{get-without, get-keep, get-change, Key, Broker, Mount, same_true, of_secrets, of_mounts}
use Rattle.records.specs.Words.{Tells, key_row, mount_row, version_at, version_row_of, version_of_digits, line_feed}
use Rattle.records.specs.Words.{lacks, Table, mount_rows}
use Rattle.records.specs.declared.kind.Kind.TheVariants as kind
use Rattle.kv2.specs.Words.{without_key, without_names, versions_prefix, rows_with_settings}
use Rattle.kv2.specs.Secrets as secrets
use Rattle.kv2.proofs.Parts.{secrets_by, mounts_by}
use Rattle.kv2.proofs.SecretsTold.{key_rows, version_rows}
use Rattle.kv2.proofs.VersionRows.{at_parts, without_name, without_folder, at_parts-without_name}
use Rattle.kv2.proofs.VersionRows.{at_parts-without_folder}

no_rows : (o : Option ℕ) → version_row_of None o ≡ None
no_rows None = refl
no_rows (Some n) = refl

-- ---- a key removed

module _ (s : Map Key) (name : Text) where
  key-without : (q : Text) → (if same q name then None else option_map key_row (get s q))
      ≡ option_map key_row (get (without s name) q)
  key-without q = chosen (same q name) (get s q) ∙ ap (option_map key_row) (sym (get-without s name q))
    where
      chosen : (b : Bool) (x : Option Key) → (if b then None else option_map key_row x)
          ≡ option_map key_row (cond b None x)
      chosen true x = refl
      chosen false x = refl

  part-without : (p : Text × Text) → without_name (version_at s) name p ≡ version_at (without s name) p
  part-without p = chosen (same p.0 name) (get s p.0)
      ∙ ap (λ k. version_row_of k (version_of_digits p.1)) (sym (get-without s name p.0))
    where
      chosen : (b : Bool) (x : Option Key)
          → (if b then None else version_row_of x (version_of_digits p.1))
          ≡ version_row_of (cond b None x) (version_of_digits p.1)
      chosen true x = sym (no_rows (version_of_digits p.1))
      chosen false x = refl

  versions-without : lacks line_feed name ≡ true → (q : Text)
      → (if starts_with nat_eq q (versions_prefix name) then None else at_parts (version_at s) q)
      ≡ at_parts (version_at (without s name)) q
  versions-without h q = at_parts-without_name (version_at s) name h q
      ∙ ap (λ rows. at_parts rows q) (λ i p. part-without p i)

-- ---- a mount dropped

module _ (s : Map Key) (prefix : Text) where
  abbrev stays : Text → Bool
  stays q = not (starts_with nat_eq q prefix)

  key-kept : (q : Text) → (if starts_with nat_eq q prefix then None else option_map key_row (get s q))
      ≡ option_map key_row (get (keep stays s) q)
  key-kept q = chosen (starts_with nat_eq q prefix) (get s q) ∙ ap (option_map key_row) (sym (get-keep stays s q))
    where
      chosen : (b : Bool) (x : Option Key) → (if b then None else option_map key_row x)
          ≡ option_map key_row (cond (not b) x None)
      chosen true x = refl
      chosen false x = refl

  part-kept : (p : Text × Text) → without_folder (version_at s) prefix p ≡ version_at (keep stays s) p
  part-kept p = chosen (starts_with nat_eq p.0 prefix) (get s p.0)
      ∙ ap (λ k. version_row_of k (version_of_digits p.1)) (sym (get-keep stays s p.0))
    where
      chosen : (b : Bool) (x : Option Key)
          → (if b then None else version_row_of x (version_of_digits p.1))
          ≡ version_row_of (cond (not b) x None) (version_of_digits p.1)
      chosen true x = sym (no_rows (version_of_digits p.1))
      chosen false x = refl

  versions-kept : lacks line_feed prefix ≡ true → (q : Text)
      → (if starts_with nat_eq q prefix then None else at_parts (version_at s) q)
      ≡ at_parts (version_at (keep stays s)) q
  versions-kept h q = at_parts-without_folder (version_at s) prefix h q
      ∙ ap (λ rows. at_parts rows q) (λ i p. part-kept p i)

-- ---- tables

module _ (t : Table) (b : Broker) (told : Tells of_secrets t b) where
  pub removed_told : (mount path : Text) → lacks line_feed (secrets.secret_name mount path) ≡ true
      → Tells of_secrets (without_key t (secrets.secret_name mount path)) (secrets.remove_key b mount path)
  removed_told mount path h =
      let name = secrets.secret_name mount path in
      secrets_by (without_key t name) (secrets.remove_key b mount path)
      (λ q. ap (λ x. if same q name then None else x) (told kind.KvKey q refl ∙ key_rows b q)
      ∙ key-without b.secrets name q)
      (λ q. ap (λ x. if starts_with nat_eq q (versions_prefix name) then None else x)
      (told kind.KvVersion q refl ∙ version_rows b q)
      ∙ versions-without b.secrets name h q)

  pub dropped_told : (mount : Text) → lacks line_feed (secrets.secret_name mount []) ≡ true
      → Tells of_secrets (without_names t (secrets.secret_name mount [])) (secrets.drop_mount b mount)
  dropped_told mount h =
      let prefix = secrets.secret_name mount [] in
      secrets_by (without_names t prefix) (secrets.drop_mount b mount)
      (λ q. ap (λ x. if starts_with nat_eq q prefix then None else x) (told kind.KvKey q refl ∙ key_rows b q)
      ∙ key-kept b.secrets prefix q)
      (λ q. ap (λ x. if starts_with nat_eq q prefix then None else x) (told kind.KvVersion q refl ∙ version_rows b q)
      ∙ versions-kept b.secrets prefix h q)

-- ---- settings

module _ (t : Table) (b : Broker) (told : Tells of_mounts t b) (mount : Text) (cas_required : Option Bool)
    (max_versions : Option ℕ) where
  abbrev edit : Mount → Mount
  edit = secrets.with_settings cas_required max_versions

  settings_at : (q : Text) → rows_with_settings t mount (option_map edit (get b.mounts mount)) kind.Mount q
      ≡ option_map mount_row (get (change b.mounts mount edit) q)
  settings_at q =
      elim (get b.mounts mount) as (λ o. get b.mounts mount ≡ o
      → rows_with_settings t mount (option_map edit o) kind.Mount q
      ≡ option_map mount_row (option_map (λ m. if same q mount then edit m else m) (get b.mounts q))) [
        | None ↦ λ none. told kind.Mount q refl ∙ mount_rows b q
            ∙ elim (same q mount) as (λ v. same q mount ≡ v → option_map mount_row (get b.mounts q)
            ≡ option_map mount_row (option_map (λ m. if v then edit m else m) (get b.mounts q))) [
              | true ↦ λ is. let at : get b.mounts q ≡ None = ap (get b.mounts) (same_true q mount is) ∙ none in
                  ap (option_map mount_row) at ∙ sym (ap (λ o. option_map mount_row (option_map edit o)) at)
              | false ↦ λ _. ap (option_map mount_row) (still (get b.mounts q))
            ] refl
        | Some m ↦ λ some.
            elim (same q mount) as (λ v. same q mount ≡ v → (if v then Some (mount_row (edit m)) else t kind.Mount q)
            ≡ option_map mount_row (option_map (λ m. if v then edit m else m) (get b.mounts q))) [
              | true ↦ λ is. sym (ap (λ o. option_map mount_row (option_map edit o))
                  (ap (get b.mounts) (same_true q mount is) ∙ some))
              | false ↦ λ _. told kind.Mount q refl ∙ mount_rows b q
                  ∙ ap (option_map mount_row) (still (get b.mounts q))
            ] refl
      ] refl
      ∙ sym (ap (option_map mount_row) (get-change b.mounts mount edit q))
    where
      still : (o : Option Mount) → o ≡ option_map (λ m. m) o
      still None = refl
      still (Some m) = refl

  pub settings_told : Tells of_mounts (rows_with_settings t mount (option_map edit (get b.mounts mount)))
      (secrets.set_config b mount cas_required max_versions)
  settings_told = mounts_by (rows_with_settings t mount (option_map edit (get b.mounts mount)))
      (secrets.set_config b mount cas_required max_versions) settings_at
