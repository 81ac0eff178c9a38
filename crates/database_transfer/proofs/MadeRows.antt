-- Rows that an import made.
use Rattle.std.proofs.Common.{◌≡◌, [], List, ℕ, Bool, true, false, Result, Ok, Err, IfOk, sym, ap, ◌∙◌, subst}
use Rattle.std.specs.List.{fold}
use Rattle.records.specs.Calls.{IsReading}
use Rattle.records.specs.Words.{Rows, Seen, table_of, AreUpgraded, Fault, IsHonest, IsMemoryOrStorage, false≢true}
use Rattle.salvage.specs.Changes.{changed}
use Rattle.salvage.specs.declared.change.Change.{Change}
use Rattle.soundness.specs.Words.{AreOfABroker}
use Rattle.transfer.specs.Files.{IsFileOf}
use Rattle.database_transfer.specs.Imports.{IsImported, IsMade, IsSoundAsItIs}
use Rattle.database_transfer.specs.declared.importing.How.{How}
use Rattle.database_transfer.specs.declared.importing.How.TheVariants.{Whole, Salvaged}
use Rattle.database_transfer.specs.declared.importing.Outcome.{Outcome}
use Rattle.database_transfer.specs.declared.importing.Outcome.TheVariants.{Done, Refused, Unsound}

-- nothing was changed
pub made_as_it_is : (how : How) (old opened new : Rows) → AreUpgraded (table_of old) (table_of opened) → new ≡ opened
    → (outcome : Outcome) → IsSoundAsItIs opened outcome → IsMade how old new outcome
made_as_it_is how old opened new up same (Done changes) so =
    record {
      opened = opened;
      upgraded = up;
      made = same ∙ sym (ap (λ (cs : List Change). fold changed opened cs) so.0);
      few = λ _. so.0;
      sound = subst AreOfABroker (sym same) so.1;
    }
made_as_it_is how old opened new up same (Refused refusal) so = tt
made_as_it_is how old opened new up same (Unsound defect) so = tt

-- of the rows of a file
pub imported_of : (text : List ℕ) (how : How) (old new : Rows) → IsFileOf old text → (outcome : Outcome)
    → IsMade how old new outcome → IsImported text how new outcome
imported_of text how old new file (Done changes) so = (old, file, so)
imported_of text how old new file (Refused refusal) so = tt
imported_of text how old new file (Unsound defect) so = tt

-- the same of a call that only read
pub made_if_ok : (how : How) (old : Rows) (up now : Seen) (result : Result Outcome Fault)
    → AreUpgraded (table_of old) (table_of up.rows) → IsHonest now → IsReading up now result IsMemoryOrStorage
    → IfOk result (IsSoundAsItIs up.rows) → IfOk result (IsMade how old now.rows)
made_if_ok how old up now (Ok outcome) upgraded honest call so =
    made_as_it_is how old up.rows now.rows upgraded (call.same honest) outcome so
made_if_ok how old up now (Err fault) upgraded honest call so = tt

-- what is salvaged is not as a whole
pub not_whole : (how : How) (moment : ℕ) → how ≡ Whole → how ≡ Salvaged moment → ⊥
not_whole how moment whole other = apart (ap is_whole (sym whole ∙ other))
  where
    is_whole : How → Bool
    is_whole Whole = true
    is_whole (Salvaged m) = false

    apart : true ≡ false → ⊥
    apart e = false≢true (sym e)
