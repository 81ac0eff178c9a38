-- What is done to versions of a secret by their numbers, as the code names it (this project's definition).
use Rattle.std.specs.Prelude.{◌≡◌, ℕ, List, ⊤}
use Rattle.broker_model.specs.Words.{Broker, Version, Text, delete_versions, destroy, undelete, soft_deleted, restored}
use Rattle.broker_model.specs.Words.{destroyed}
use Rattle.secret_operations.specs.declared.secrets.changes.Change.{Change}
use Rattle.secret_operations.specs.declared.secrets.changes.Change.TheVariants as done

-- what a change does to a broker
abbrev pub changed : Change → Broker → Text → Text → List ℕ → Broker
changed (done.Delete now) = delete_versions
changed done.Undelete = undelete
changed done.Destroy = destroy

-- and to a version
abbrev pub change_of : Change → Version → Version
change_of (done.Delete now) = soft_deleted now
change_of done.Undelete = restored
change_of done.Destroy = destroyed

-- what is deleted is deleted at the clock's moment
abbrev pub IsTimely : ℕ → Change → Type 0
IsTimely clock (done.Delete now) = clock ≡ now
IsTimely clock done.Undelete = ⊤
IsTimely clock done.Destroy = ⊤
