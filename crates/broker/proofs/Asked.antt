-- Who asks, from one time in a request to another.
use Rattle.std.proofs.Common.{◌≡◌, Option, Some, None, sym, subst}
use Rattle.broker_model.specs.Words.{Broker, Rows}
use Rattle.broker_rows.specs.Words.{Asker, Context, Represents}
use Rattle.broker.specs.Askers.{BeginsFor, who_of}

-- the rows that a command starts from represent the broker
pub begins_represented : (asker : Option Asker) (x : Context) (rows : Rows) (b : Broker) → BeginsFor asker x rows b
    → Represents (who_of asker) rows b
begins_represented None x rows b begins = begins.represents
begins_represented (Some a) x rows b begins = begins.1.begins.represents

-- and its clock is that of the request
pub begins_clock : (asker : Option Asker) (x : Context) (rows : Rows) (b : Broker) → BeginsFor asker x rows b
    → b.clock ≡ x.clock
begins_clock None x rows b begins = begins.clock
begins_clock (Some a) x rows b begins = begins.1.begins.clock

-- a command starts from rows as long as they stay
pub begins_still : (asker : Option Asker) (x : Context) (old new : Rows) (b : Broker) → new ≡ old
    → BeginsFor asker x old b
    → BeginsFor asker x new b
begins_still asker x old new b same begins = subst (λ (rows : Rows). BeginsFor asker x rows b) (sym same) begins
