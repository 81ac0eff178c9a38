-- What holds of what a check finds.
use Rattle.std.proofs.Common.{◌≤◌, ◌∙◌, Result, Ok, Err, arith, IfOk}
use Rattle.records.specs.Words.{Kept, IsHonestStore, table_of, Rows, AreUpgraded, one_table}
use Rattle.soundness.specs.Words.{AreOfABroker}
use Rattle.database_check.specs.Findings.{IfSound, IfUnsound, OpenAsABroker}
use Rattle.database_check.specs.declared.checking.Finding.{Finding}
use Rattle.database_check.specs.declared.checking.Finding.TheVariants.{Sound, Unsound}
use Rattle.database_check.specs.declared.counts.Counts.{Counts}
use Rattle.database_check.specs.declared.defect.Defect.{Defect}

pub if_sound : {P Q : Counts → Type 0} (finding : Finding) → ((counts : Counts) → P counts → Q counts)
    → IfSound finding P → IfSound finding Q
if_sound (Sound counts) f p = f counts p
if_sound (Unsound defect) f p = tt

pub if_unsound : {P Q : Defect → Type 0} (finding : Finding) → ((defect : Defect) → P defect → Q defect)
    → IfUnsound finding P → IfUnsound finding Q
if_unsound (Sound counts) f p = tt
if_unsound (Unsound defect) f p = f defect p

-- what follows of records that were opened, if those which were checked are honest
pub of_opened : {X E : Type 0} {P Q : X → Type 0} (kept : X → Kept) (opened : Kept) (r : Result X E)
    → IfOk r (λ x. opened.mismatches ≤ (kept x).mismatches) → (IsHonestStore opened → (x : X) → P x → Q x)
    → IfOk r (λ x. IsHonestStore (kept x) → P x) → IfOk r (λ x. IsHonestStore (kept x) → Q x)
of_opened kept opened (Err fault) less f p = tt
of_opened kept opened (Ok x) less f p = λ honest.
    let before : IsHonestStore opened = omega (arith, less, honest) in
    f before x (p honest)

-- where what they are rewritten to is of no sound broker, an opening makes no rows of one of them
pub opens_as_none : (old rows : Rows) → AreUpgraded (table_of old) (table_of rows) → (AreOfABroker rows → ⊥)
    → OpenAsABroker old → ⊥
opens_as_none old rows up none (other, also, of) =
    let rows = one_table (table_of old) (table_of rows) (table_of other) up also ∙ of.1.rows in
    none (of.0, record { rows = rows; sound = of.1.sound })
