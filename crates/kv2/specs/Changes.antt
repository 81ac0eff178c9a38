-- Changes of versions, as the code names them, and what the calls leave that make them.
use Rattle.records.specs.Words.{ℕ, List, ⊤, Result, OnOk, IfErr, Text, Broker, IsMemoryOrStorage, IsNotBadStart, Fault}
use Rattle.records.specs.Words.{Version, Forms, SoundSecrets, IsMoment, IsSecretName, IsCall, of_secrets, Tells, table}
use Rattle.records.specs.Words.{Seen, IsHonest}
use Rattle.kv2.specs.declared.changing.Change.{Change}
use Rattle.kv2.specs.declared.changing.Change.TheVariants as done
use Rattle.kv2.specs.SecretRows.{AreChanged, AreReadableVersions}
use Rattle.kv2.specs.Secrets.{secret_name, with_versions}
use Rattle.kv2.specs.Versions.{soft_deleted, restored, destroyed}

-- what a change does to a version
abbrev pub change_of : Change → Version → Version
change_of (done.Delete now) = soft_deleted now
change_of done.Restore = restored
change_of done.Destroy = destroyed

-- what it needs of its moment
abbrev pub IsTimely : Change → Type 0
IsTimely (done.Delete now) = IsMoment now
IsTimely done.Restore = ⊤
IsTimely done.Destroy = ⊤

-- A call that changes the versions of these numbers of the secret at a path of a mount, whatever the rows are. Those
-- that are not there are passed over; with a damaged row there is no answer.
pub record ChangesVersions {A : Type 0} (f : Version → Version) (ns : List ℕ) (mount path : Text) (old new : Seen)
    (result : Result A Fault) : Type 0 where
  -- the versions are changed, and no other row is
  pub rows : IsHonest new → OnOk result (AreChanged f ns (secret_name mount path) (table old) (table new))
  -- if the rows are those of a broker's secrets, then they are those of the next broker's afterwards
  pub told : IsHonest new → (forms : Forms) (b : Broker) → SoundSecrets forms b.secrets
      → Tells of_secrets (table old) b → IsSecretName (secret_name mount path)
      → OnOk result (Tells of_secrets (table new) (with_versions f b mount path ns))
  -- and then it fails only if memory runs out or the storage fails
  pub wants : IsHonest new → (forms : Forms) (b : Broker) → SoundSecrets forms b.secrets
      → Tells of_secrets (table old) b → IsSecretName (secret_name mount path) → IfErr result IsMemoryOrStorage
  -- it fails as damaged only if a row of these versions is
  pub faults : IsHonest new → AreReadableVersions (table old) (secret_name mount path) ns
      → IfErr result IsMemoryOrStorage
  pub call : IsCall old new result IsNotBadStart
