-- How the commands end that change versions of a secret by their numbers, by what the call on the rows says.
use Rattle.std.proofs.Common.{◌≡◌, ℕ, List, Option, Ok, refl, sym, ap}
use Rattle.broker_model.specs.Words.{⊤, Broker, nothing, plainly, Version, Sound, IsSecretName, Text, table, Seen}
use Rattle.broker_model.specs.Words.{IsHonest, of_secrets, KeepsOthers, ChangesVersions, secret_name, with_versions}
use Rattle.broker_model.specs.Words.{delete_versions_sound, destroy_sound, undelete_sound, soft_deleted, forms}
use Rattle.broker_rows.specs.Words.{ActsAs, Represents, tells_part}
use Rattle.broker_rows.specs.declared.answered.Answered.TheVariants.{Nothing}
use Rattle.secret_operations.specs.VersionChanges.{IsTimely, change_of, changed}
use Rattle.secret_operations.specs.declared.secrets.changes.Change.{Change}
use Rattle.secret_operations.specs.declared.secrets.changes.Change.TheVariants as done
use Rattle.secret_operations.proofs.SecretAnswers.{acts_changed}
use Rattle.secret_operations.proofs.SecretTables.{changes_inside}

module _ (f : Version → Version) (ns : List ℕ) (mount path : Text) (old new : Seen) (done : ⊤)
    (call : ChangesVersions f ns mount path old new (Ok done)) (honest : IsHonest new) where
  -- only rows of secrets and of versions have changed
  pub only_secrets : KeepsOthers of_secrets (table old) (table new)
  only_secrets = changes_inside f ns (secret_name mount path) (table old) (table new) (call.rows honest)

  -- the versions are changed, and nothing is answered
  pub acts_on_versions : (b : Broker) (who : Option Text) → Represents who old.rows b
      → IsSecretName (secret_name mount path)
      → Sound forms who (with_versions f b mount path ns)
      → ActsAs who b new.rows (Ok Nothing) (Ok (plainly nothing (with_versions f b mount path ns)))
  acts_on_versions b who st name sound =
      acts_changed b who old.rows new.rows (with_versions f b mount path ns).secrets st sound
      (call.told honest forms b st.sound.secrets (tells_part of_secrets b old.rows st) name) only_secrets

module _ (b : Broker) (mount path : Text) (ns : List ℕ) where
  -- what a change does to the versions is what it does to the broker
  pub as_changed : (change : Change) → IsTimely b.clock change
      → with_versions (change_of change) b mount path ns ≡ changed change b mount path ns
  as_changed (done.Delete now) clock = ap (λ n. with_versions (soft_deleted n) b mount path ns) (sym clock)
  as_changed done.Undelete timely = refl
  as_changed done.Destroy timely = refl

  -- and that is sound still
  pub changed_sound : (who : Option Text) → Sound forms who b → (change : Change)
      → Sound forms who (changed change b mount path ns)
  changed_sound who sound (done.Delete now) = delete_versions_sound forms who b sound mount path ns
  changed_sound who sound done.Undelete = undelete_sound forms who b sound mount path ns
  changed_sound who sound done.Destroy = destroy_sound forms who b sound mount path ns
