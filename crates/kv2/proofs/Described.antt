-- Settings of a secret: its rows are those of the next broker.
use Rattle.std.proofs.Common.{◌≡◌, if◌then◌else◌, ℕ, List, map, Bool, true, false, cond, Option, Some, None, option_map}
use Rattle.records.specs.Words.{unwrap_or, nat_cmp, option_map_or, refl, sym, ◌∙◌, ap, Text, text_cmp, same, same_true}
use Rattle.records.specs.Words.{Map, get, put, entries, get-put, Key, Broker, IsMoment, is_ascending, listed_entries}
use Rattle.records.specs.Words.{KeyEntry, key_entry, of_secrets, Tells, IsKeyInRange, IsSomeIn, IsWide, key_row}
use Rattle.records.specs.Words.{key_entry_row, version_row, version_of_digits, version_row_of, version_at, Table}
use Rattle.records.specs.Words.{IsMeta}
use Rattle.std.specs.FinMap as fin
use Rattle.records.specs.declared.kind.Kind.TheVariants as kind
use Rattle.kv2.specs.Words.{new_entry, described_entry, with_description, secret_name, set_metadata, Settings}
use Rattle.kv2.specs.Words.{described, key_or_new}
use Rattle.kv2.proofs.Parts.{secrets_by}
use Rattle.kv2.proofs.SecretsTold.{key_rows, version_rows}
use Rattle.kv2.proofs.VersionRows.{at_parts}
use Rattle.kv2.proofs.WriteCalls.{entry_or_new}

-- names that ascend
abbrev pub Ascend : List (Text × Text) → Type 0
Ascend es = is_ascending (map (λ e. e.0) es) ≡ true

-- ---- the key

module _ (now : ℕ) (given : Settings) (ascend : IsSomeIn Ascend given.custom_metadata) where
  metadata_of_map : (o : Option (List (Text × Text))) → IsSomeIn Ascend o → (k : Key)
      → unwrap_or o (entries k.custom_metadata) ≡ entries
      (option_map_or (fin.from_entries {R = text_cmp}) o k.custom_metadata)
  metadata_of_map None h k = refl
  metadata_of_map (Some es) h k = sym (listed_entries es (h es refl))

  -- what its row says
  entry_described : (k : Key) → described_entry now given (key_entry k) ≡ key_entry (described now given k)
  entry_described k =
      λ i. record (described_entry now given (key_entry k))
      { custom_metadata = metadata_of_map given.custom_metadata ascend k i }

  row_described : (o : Option Key)
      → key_entry_row (described_entry now given (unwrap_or (option_map key_entry o) (new_entry now)))
      ≡ key_row (described now given (key_or_new now o))
  row_described o =
      ap (λ e. key_entry_row (described_entry now given e)) (entry_or_new now o)
      ∙ ap key_entry_row (entry_described (key_or_new now o))

-- it fits into its row if what is given does
pub described_in_range : (now : ℕ) (given : Settings) (k : KeyEntry) → IsMoment now → IsKeyInRange k
    → IsSomeIn IsMeta given.custom_metadata
    → IsWide (unwrap_or given.max_versions k.max_versions) → IsKeyInRange (described_entry now given k)
described_in_range now given k moment range some wide = record {
  current = range.current;
  created = range.created;
  updated = moment;
  max_versions = wide;
  custom_metadata = chosen given.custom_metadata some;
}
  where
    chosen : (o : Option (List (Text × Text))) → IsSomeIn IsMeta o → IsMeta (unwrap_or o k.custom_metadata)
    chosen None h = range.custom_metadata
    chosen (Some es) h = h es refl

-- ---- its versions

module _ (now : ℕ) (given : Settings) (s : Map Key) (name : Text) where
  abbrev after : Key
  after = described now given (key_or_new now (get s name))

  -- they are as they were, and a new key has none
  no_versions : (n : Option ℕ) (o : Option Key)
      → version_row_of (Some (described now given (key_or_new now o))) n ≡ version_row_of o n
  no_versions None o = refl
  no_versions (Some n) None = ap (option_map version_row) (fin.get-empty nat_cmp n)
  no_versions (Some n) (Some k) = refl

  part_described : (p : Text × Text) → version_at s p ≡ version_at (put s name after) p
  part_described p =
      elim (same p.0 name) as (λ b. same p.0 name ≡ b
      → version_row_of (get s p.0) (version_of_digits p.1)
      ≡ version_row_of (cond b (Some after) (get s p.0)) (version_of_digits p.1)) [
        | true ↦ λ is. ap (λ q. version_row_of (get s q) (version_of_digits p.1)) (same_true p.0 name is)
            ∙ sym (no_versions (version_of_digits p.1) (get s name))
        | false ↦ λ _. refl
      ] refl
      ∙ ap (λ k. version_row_of k (version_of_digits p.1)) (sym (get-put s name after p.0))

  versions_described : (q : Text) → at_parts (version_at s) q ≡ at_parts (version_at (put s name after)) q
  versions_described q = ap (λ rows. at_parts rows q) (λ i p. part_described p i)

  keys_described : (q : Text) → (if same q name then Some (key_row after) else option_map key_row (get s q))
      ≡ option_map key_row (get (put s name after) q)
  keys_described q = chosen (same q name) (get s q) ∙ ap (option_map key_row) (sym (get-put s name after q))
    where
      chosen : (b : Bool) (x : Option Key) → (if b then Some (key_row after) else option_map key_row x)
          ≡ option_map key_row (cond b (Some after) x)
      chosen true x = refl
      chosen false x = refl

-- ---- the table

module _ (t : Table) (b : Broker) (told : Tells of_secrets t b) (mount path : Text) (given : Settings)
    (ascend : IsSomeIn Ascend given.custom_metadata) where
  abbrev name : Text
  name = secret_name mount path

  -- the rows are those of the next broker
  pub described_told : Tells of_secrets (with_description t name b.clock given
      (option_map key_entry (get b.secrets name))) (set_metadata b mount path given)
  described_told =
      secrets_by (with_description t name b.clock given (option_map key_entry (get b.secrets name)))
      (set_metadata b mount path given)
      (λ q. (λ i. if same q name then Some (row_described b.clock given ascend (get b.secrets name) i) else
      (told kind.KvKey q refl ∙ key_rows b q) i)
      ∙ keys_described b.clock given b.secrets name q)
      (λ q. told kind.KvVersion q refl ∙ version_rows b q ∙ versions_described b.clock given b.secrets name q)
