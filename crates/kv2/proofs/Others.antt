-- The rows that an edit of secrets leaves as they were.
use Rattle.std.proofs.Common.{◌≡◌, ◌==◌, ◌&&◌, ◌∷◌, ◌++◌, ◌+◌, ◌-◌, if◌then◌else◌, [], ℕ, List, nat_eq, nat_lt, Bool}
use Rattle.records.specs.Words.{true, false, Option, Some, None, unwrap_or, starts_with, is_le, refl, sym, ◌∙◌, ap}
use Rattle.records.specs.Words.{false≢true, false_from_ne_true, Text, text_cmp, same, same_true, Version, Mount}
use Rattle.records.specs.Words.{kind_number, KeyEntry, of_secrets, KeepsOthers, version_row, key_entry_row, mount_row}
use Rattle.records.specs.Words.{version_key, line_feed, eqb_self, Table, with_row, is_at}
use Rattle.kv2.specs.Words.{Kind, AreChanged, KeepsOtherNames, KeepsOtherMounts, is_key_of, versions_prefix}
use Rattle.kv2.specs.Words.{rows_with_version, without_key, without_names, rows_with_settings, without_upto, new_entry}
use Rattle.kv2.specs.Words.{next_entry, described_entry, with_description, Settings, new_version}
use Rattle.records.specs.declared.kind.Kind.TheVariants as kind
use Rattle.kv2.proofs.Changed.{key_is_among}

-- the keys of a name's versions begin with the name
key_begins : (name digits : Text) → starts_with nat_eq (name ++ line_feed ∷ digits) (name ++ line_feed ∷ []) ≡ true
key_begins [] digits = refl
key_begins (x ∷ name) digits = λ i. eqb_self x i && key_begins name digits i

both_false : (k a b : Bool) → (k && a) ≡ false → (b ≡ true → a ≡ true) → (k && b) ≡ false
both_false true a b h from = false_from_ne_true b (λ e. false≢true (sym h ∙ from e))
both_false false a b h from = refl

module _ (name : Text) (t : Table) where
  -- changes of versions
  pub changed_keeps : (f : Version → Version) (ns : List ℕ) (new : Table) → AreChanged f ns name t new
      → KeepsOtherNames name t new
  changed_keeps f ns new h k q not_key apart =
      h.others k q (both_false (kind_number k == kind_number kind.KvVersion)
      (starts_with nat_eq q (versions_prefix name)) (is_key_of ns name q) apart (λ e.
      let m = key_is_among name ns q e in ap (λ z. starts_with nat_eq z (versions_prefix name)) m.2
      ∙ key_begins name _))

  -- a write
  pub written_keeps : (e : KeyEntry) (limit now : ℕ) (object : Text)
      → KeepsOtherNames name t (rows_with_version t name e limit now object)
  written_keeps e limit now object k q not_key apart =
      pruned_apart (nat_lt limit (e.current + 1))
      ∙ ap (λ b. if b then Some (key_entry_row (next_entry now e)) else
      (if own k q then Some (version_row (new_version now object)) else t k q)) not_key
      ∙ ap (λ b. if b then Some (version_row (new_version now object)) else t k q)
      (both_false (kind_number k == kind_number kind.KvVersion) (starts_with nat_eq q (versions_prefix name))
      (same q (version_key name
      (e.current + 1))) apart (λ one.
      ap (λ z. starts_with nat_eq z (versions_prefix name)) (same_true q (version_key name (e.current + 1)) one)
      ∙ key_begins name _))
    where
      own : Kind → Text → Bool
      own k q = is_at kind.KvVersion (version_key name (e.current + 1)) k q

      before : Table
      before = with_row (with_row t kind.KvVersion (version_key name (e.current + 1))
          (version_row (new_version now object)))
          kind.KvKey name (key_entry_row (next_entry now e))

      pruned_apart : (p : Bool) → (if p then without_upto before kind.KvVersion (versions_prefix name) (version_key name
          (e.current + 1 - limit)) else before) k q
          ≡ before k q
      pruned_apart true = ap
          (λ b. if b && is_le (text_cmp q (version_key name (e.current + 1 - limit))) then None else before k q) apart
      pruned_apart false = refl

  -- settings of a secret
  pub described_keeps : (now : ℕ) (given : Settings) (o : Option KeyEntry)
      → KeepsOtherNames name t (with_description t name now given o)
  described_keeps now given o k q not_key apart =
      ap (λ b. if b then Some (key_entry_row (described_entry now given (unwrap_or o (new_entry now)))) else t k q)
      not_key

  -- a removal
  pub removed_keeps : KeepsOtherNames name t (without_key t name)
  removed_keeps k q not_key apart =
      ap (λ b. if b then None else (if is_at kind.KvKey name k q then None else t k q)) apart
      ∙ ap (λ b. if b then None else t k q) not_key

-- a mount dropped
pub dropped_keeps : (prefix : Text) (t : Table) → KeepsOthers of_secrets t (without_names t prefix)
dropped_keeps prefix t kind.KvKey q p = absurd (false≢true (sym p))
dropped_keeps prefix t kind.KvVersion q p = absurd (false≢true (sym p))
dropped_keeps prefix t _ q p = refl

-- settings
pub settings_keep : (mount : Text) (t : Table) (o : Option Mount)
    → KeepsOtherMounts mount t (rows_with_settings t mount o)
settings_keep mount t None k q apart = refl
settings_keep mount t (Some m) k q apart = ap (λ b. if b then Some (mount_row m) else t k q) apart
