-- What rows an import makes (this project's definition).
use Rattle.std.specs.Prelude.{◌≡◌, ℕ, List, [], ⊤}
use Rattle.std.specs.List.{fold}
use Rattle.records.specs.Words.{Rows, table_of, AreUpgraded}
use Rattle.soundness.specs.Words.{AreOfABroker}
use Rattle.salvage.specs.Changes.{changed}
use Rattle.salvage.specs.declared.change.Change.{Change}
use Rattle.transfer.specs.Files.{IsFileOf}
use Rattle.database_transfer.specs.declared.importing.How.{How}
use Rattle.database_transfer.specs.declared.importing.How.TheVariants.{Whole, Salvaged}
use Rattle.database_transfer.specs.declared.importing.Outcome.{Outcome}
use Rattle.database_transfer.specs.declared.importing.Outcome.TheVariants.{Done, Refused, Unsound}

-- Rows of a sound broker: those that an opening makes of these, with the changes that are told, of which there are none
-- where they were not asked for.
pub record IsSound (how : How) (old new : Rows) (changes : List Change) : Type 0 where
  pub opened : Rows
  pub upgraded : AreUpgraded (table_of old) (table_of opened)
  pub made : new ≡ fold changed opened changes
  pub few : how ≡ Whole → changes ≡ []
  pub sound : AreOfABroker new

-- if the import was done, its rows are such
abbrev pub IsMade : How → Rows → Rows → Outcome → Type 0
IsMade how old new (Done changes) = IsSound how old new changes.items
IsMade how old new _ = ⊤

-- the same of the rows of a file
abbrev pub IsImported : List ℕ → How → Rows → Outcome → Type 0
IsImported text how new (Done changes) = (old : Rows) × IsFileOf old text × IsSound how old new changes.items
IsImported text how new _ = ⊤

-- if the import was done, nothing was changed, since the rows are those of a sound broker
abbrev pub IsSoundAsItIs : Rows → Outcome → Type 0
IsSoundAsItIs rows (Done changes) = (changes.items ≡ []) × AreOfABroker rows
IsSoundAsItIs rows _ = ⊤
