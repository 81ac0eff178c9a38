-- Changes of versions, from what their calls say.
use Rattle.std.proofs.Common.{◌≡◌, ◌<◌, ◌^◌, ◌∷◌, if◌then◌else◌, [], true, false, Option, Some, None, option_map, ℕ, ap}
use Rattle.records.specs.Words.{List, refl, sym, ◌∙◌, subst, Text, same, same_true, Map, get, change, get-change}
use Rattle.records.specs.Words.{same_map, Key, Version, Broker, Forms, SoundSecrets, IsSecretName, key_entry}
use Rattle.records.specs.Words.{of_secrets, Tells, Table}
use Rattle.kv2.specs.Words.{HasKey, HasVersion, IsReadableVersion, AreChanged, current_of, secret_name, with_key}
use Rattle.kv2.specs.Words.{version_of, with_changed}
use Rattle.kv2.proofs.Digits.{KeyLaws}
use Rattle.kv2.proofs.Changed.{changed_told}
use Rattle.kv2.proofs.SecretsTold.{has_key, has_version}

-- edits that do the same to the value at a key
change_alike : (m : Map Key) (name : Text) (g h : Key → Key) → ((k : Key) → get m name ≡ Some k → g k ≡ h k)
    → change m name g ≡ change m name h
change_alike m name g h alike =
    same_map _ _ (λ q. get-change m name g q ∙ at q (get m q) refl ∙ sym (get-change m name h q))
  where
    at : (q : Text) (o : Option Key) → get m q ≡ o
        → option_map (λ k. if same q name then g k else k) o ≡ option_map (λ k. if same q name then h k else k) o
    at q None e = refl
    at q (Some k) e = elim (same q name) as (λ v. same q name ≡ v
        → Some (if v then g k else k) ≡ Some (if v then h k else k)) [
          | true ↦ λ is. ap Some (alike k (ap (get m) (sym (same_true q name is)) ∙ e))
          | false ↦ λ _. refl
        ] refl

module _ (forms : Forms) (b : Broker) (sound : SoundSecrets forms b.secrets) (old : Table)
    (told : Tells of_secrets old b) (mount path name : Text)
    (is : name ≡ secret_name mount path) where
  -- what the rows have of the key
  pub its_key : HasKey old name (option_map key_entry (get b.secrets (secret_name mount path)))
  its_key = subst (λ q. HasKey old q (option_map key_entry (get b.secrets (secret_name mount path)))) (sym is)
      (has_key forms b sound old told (secret_name mount path))

  module _ (laws : KeyLaws) (is_name : IsSecretName (secret_name mount path)) where
    -- and of its versions
    pub its_versions : (n : ℕ) → n < 2 ^ 64 → IsReadableVersion old name n
    its_versions n small = (
      version_of (get b.secrets (secret_name mount path)) n,
      subst (λ q. HasVersion old q n (version_of (get b.secrets (secret_name mount path)) n)) (sym is)
          (has_version forms b sound old told laws (secret_name mount path) n is_name small),
    )

    -- the broker with the versions changed
    pub versions_told : (f : Version → Version) (ns : List ℕ) (new : Table) → AreChanged f ns name old new
        → Tells of_secrets new (with_key b mount path (with_changed f ns))
    versions_told f ns new h =
        changed_told forms b sound old new told laws (secret_name mount path) is_name f ns
        (subst (λ q. AreChanged f ns q old new) is h)

    -- the broker with the current version changed
    pub current_told : (f : Version → Version) (new : Table)
        → AreChanged f (current_of (option_map key_entry (get b.secrets
        (secret_name mount path)))) name old new
        → Tells of_secrets new (with_key b mount path (λ k. with_changed f (k.current ∷ []) k))
    current_told f new h =
        subst (λ (m : Map Key). Tells of_secrets new (record b { secrets = m }))
        (change_alike b.secrets (secret_name mount path)
        (with_changed f (current_of (option_map key_entry (get b.secrets (secret_name mount path)))))
        (λ k. with_changed f (k.current ∷ []) k)
        (λ k e. ap (λ o. with_changed f (current_of (option_map key_entry o)) k) e))
        (versions_told f _ new h)
