-- What follows from how rows were made ready.
use Rattle.std.proofs.Common.{◌≡◌, ◌≤◌, ◌⊎◌, inl, inr, ℕ, Bool, Option, Some, None, Ok, Err, Result, sym, subst}
use Rattle.std.proofs.Common.{IfOk, OnOk, arith}
use Rattle.records.specs.Words.{empty, get-empty, Broker, Text, Words, Kept, IsHonestStore, key_cmp, table_of}
use Rattle.records.specs.Words.{table_of-injective, Rows, one_table}
use Rattle.broker_rows.specs.Words.{Represents, HasNoClock}
use Rattle.broker_sql.specs.Prepared.{IsPrepared}
use Rattle.database_check.specs.Findings.{OpenAsABroker}
use Rattle.broker_server.specs.Ready.{IsReady}

no_clock : HasNoClock empty
no_clock = get-empty key_cmp _

-- rows were started where there were none, and are those of a broker
pub new_broker : (moment : ℕ) (words : Words) (before after : Rows) (root : Option Text)
    → IsPrepared moment words before after root → before ≡ empty → (b : Broker) × Represents None after b
new_broker moment words before after None it none = absurd (it.started (subst HasNoClock (sym none) no_clock))
new_broker moment words before after (Some token) it none = (_, it.broker)

-- rows were started, or opened as those of a broker: they are those of a broker
pub sound_broker : (moment : ℕ) (words : Words) (before after : Rows) (root : Option Text)
    → IsPrepared moment words before after root
    → HasNoClock before ⊎ OpenAsABroker before → (b : Broker) × Represents None after b
sound_broker moment words before after (Some token) it opens = (_, it.broker)
sound_broker moment words before after None it (inl none) = absurd (it.started none)
sound_broker moment words before after None it (inr opens) =
    let one : table_of opens.0 ≡ table_of after =
    one_table (table_of before) (table_of opens.0) (table_of after) opens.1 it.upgraded in
    subst (λ (rows : Rows). (b : Broker) × Represents None rows b) (table_of-injective opens.0 after one) opens.2

pub honest_checked : (checked after : Kept) → checked.mismatches ≤ after.mismatches → IsHonestStore after
    → IsHonestStore checked
honest_checked checked after less honest = omega (arith, less, honest)

-- rows were checked, and made ready after that
pub checked_broker : (moment : ℕ) (words : Words) (before checked after : Kept) (root : Option Text)
    → checked.mismatches ≤ after.mismatches
    → (IsHonestStore checked → HasNoClock before.rows ⊎ OpenAsABroker before.rows)
    → (IsHonestStore checked → checked.rows ≡ before.rows)
    → IsPrepared moment words checked.rows after.rows root → IsHonestStore after
    → IsPrepared moment words before.rows after.rows root × ((b : Broker) × Represents None after.rows b)
checked_broker moment words before checked after root less opens same prepared honest =
    let honest_before = honest_checked checked after less honest in
    let of_before = subst (λ (rows : Rows). IsPrepared moment words rows after.rows root) (same honest_before)
    prepared in
    (of_before, sound_broker moment words before.rows after.rows root of_before (opens honest_before))

-- rows that were prepared and are a sound broker's are ready, whether they were to be checked or not
pub all_ready : {E : Type 0} (checks : Bool) (moment : ℕ) (words : Words) (before after : Rows)
    (r : Result (Option Text) E)
    → IfOk r (IsPrepared moment words before after) → OnOk r ((b : Broker) × Represents None after b)
    → IfOk r (IsReady checks moment words before after)
all_ready checks moment words before after (Ok root) prepared sound =
    record { prepared = prepared; sound = λ _. sound }
all_ready checks moment words before after (Err error) prepared sound = tt
