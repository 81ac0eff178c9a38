-- Metadata, from what its calls say.
use Rattle.std.proofs.Common.{◌≡◌, ℕ, List, Option, Some, None, option_map, map, All, sym, ◌∙◌, ap, subst}
use Rattle.std.specs.FinMap as fin
use Rattle.records.specs.Words.{All-map, All-weaker, Text, get, mapped, mapped_none, Key, Version, Broker, Forms}
use Rattle.records.specs.Words.{SoundSecrets, KeyEntry, key_entry, of_secrets, Tells, table_of, Rows}
use Rattle.kv2.specs.Words.{IsToldInRange, AreToldInRange, metadata_of, metadata_with, version_metadata, HasKey}
use Rattle.kv2.specs.Words.{IsNumbered, AreVersions, secret_name, metadata}
use Rattle.kv2.proofs.Digits.{KeyLaws}
use Rattle.kv2.proofs.SecretsTold.{has_key}
use Rattle.kv2.proofs.VersionsListed.{versions_listed}

-- what is told of versions that rows hold is in their range
pub told_in_range : (vs : List (ℕ × Version)) → All IsNumbered vs → AreToldInRange (map version_metadata vs)
told_in_range vs all =
    All-map IsToldInRange version_metadata vs
    (All-weaker IsNumbered (λ v. IsToldInRange (version_metadata v))
    (λ v n. record { created = n.in_range.created; deleted = n.in_range.deleted }) vs all)

module _ (forms : Forms) (b : Broker) (sound : SoundSecrets forms b.secrets) (rows : Rows)
    (told : Tells of_secrets (table_of rows) b) (mount path name : Text)
    (is : name ≡ secret_name mount path) where
  abbrev here : Option Key
  here = get b.secrets (secret_name mount path)

  pub key_told : HasKey (table_of rows) name (option_map key_entry here)
  key_told = subst (λ q. HasKey (table_of rows) q (option_map key_entry here)) (sym is)
      (has_key forms b sound (table_of rows) told (secret_name mount path))

  -- no key, no metadata
  pub describe_none : (o : Option KeyEntry) → ((k : Option KeyEntry) → HasKey (table_of rows) name k → o ≡ k) → o ≡ None
      → None ≡ metadata b mount path
  describe_none o found none = sym (ap (option_map metadata_of)
      (mapped_none key_entry here (sym (found (option_map key_entry here) key_told) ∙ none)))

  -- the metadata that the rows have is that of the key
  pub describe_some : KeyLaws → (o : Option KeyEntry) (e : KeyEntry)
      → ((k : Option KeyEntry) → HasKey (table_of rows) name k → o ≡ k) → o ≡ Some e
      → (vs : List (ℕ × Version)) × AreVersions rows name vs × (Some (metadata_with e vs) ≡ metadata b mount path)
  describe_some laws o e found some =
      let k = mapped key_entry here e (sym (found (option_map key_entry here) key_told) ∙ some) in (
        fin.entries k.0.versions,
        subst (λ q. AreVersions rows q (fin.entries k.0.versions)) (sym is)
            (versions_listed laws forms b sound rows told (secret_name mount path) k.0 k.1),
        (λ i. Some (metadata_with (k.2 i) (fin.entries k.0.versions)))
            ∙ sym (ap (option_map metadata_of) k.1),
      )
