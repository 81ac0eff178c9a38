-- A read, from what its calls say.
use Rattle.std.proofs.Common.{◌≡◌, ◌<◌, ◌^◌, ℕ, Option, Some, None, option_map, option_and_then, sym, ◌∙◌, ap, subst}
use Rattle.std.specs.FinMap as fin
use Rattle.records.specs.Words.{Text, get, entries, mapped, mapped_none, Key, Version, Broker, Forms, SoundSecrets}
use Rattle.records.specs.Words.{KeyEntry, key_entry, of_secrets, Tells, Table}
use Rattle.kv2.specs.Words.{HasKey, HasVersion, secret_name, read, Found, version_of, asked_number, numbered}
use Rattle.kv2.proofs.Digits.{KeyLaws}
use Rattle.kv2.proofs.SecretsTold.{has_key, has_version}

abbrev reading : ℕ → Key → Option Found
reading n k = option_map (numbered (entries k.custom_metadata) (asked_number k.current n))
    (fin.get k.versions (asked_number k.current n))

module _ (forms : Forms) (b : Broker) (sound : SoundSecrets forms b.secrets) (t : Table) (told : Tells of_secrets t b)
    (mount path name : Text)
    (is : name ≡ secret_name mount path) (n : ℕ) where
  abbrev here : Option Key
  here = get b.secrets (secret_name mount path)

  pub its_key : HasKey t name (option_map key_entry here)
  its_key = subst (λ q. HasKey t q (option_map key_entry here)) (sym is)
      (has_key forms b sound t told (secret_name mount path))

  -- no key, nothing to read
  pub read_none : (o : Option KeyEntry) → ((k : Option KeyEntry) → HasKey t name k → o ≡ k) → o ≡ None
      → None ≡ read b mount path n
  read_none o found none =
      sym (ap (option_and_then (reading n))
      (mapped_none key_entry here (sym (found (option_map key_entry here) its_key) ∙ none)))

  -- the version that the rows have is the one that is read
  pub read_some : KeyLaws → (o : Option KeyEntry) (e : KeyEntry) → ((k : Option KeyEntry) → HasKey t name k → o ≡ k)
      → o ≡ Some e → (m : ℕ)
      → m ≡ asked_number e.current n → m < 2 ^ 64 → (v : Option Version) × HasVersion t name m v
      × (option_map (numbered e.custom_metadata m) v ≡ read b mount path n)
  read_some laws o e found some m at small =
      let k = mapped key_entry here e (sym (found (option_map key_entry here) its_key) ∙ some) in
      let m_is : m ≡ asked_number k.0.current n = at ∙ ap (λ (e : KeyEntry). asked_number e.current n) k.2 in (
        version_of here m,
        subst (λ q. HasVersion t q m (version_of here m)) (sym is)
            (has_version forms b sound t told laws (secret_name mount path) m
            (sound (secret_name mount path) k.0 k.1).name small),
        ap (λ o. option_map (numbered e.custom_metadata m) (version_of o m)) k.1
            ∙ (λ i. option_map (numbered (k.2 i).custom_metadata (m_is i)) (fin.get k.0.versions (m_is i)))
            ∙ sym (ap (option_and_then (reading n)) k.1),
      )
