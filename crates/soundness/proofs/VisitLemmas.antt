-- What a walk over rows knows of the rows that it has passed.
use Rattle.std.proofs.Common.{◌≢◌, [], None}
use Rattle.broker_model.specs.Words.{Text, Kind, Row, RowKey, Table}
use Rattle.records.specs.declared.kind.Kind.TheVariants as kind
use Rattle.soundness.specs.Words.{Places, IsEntry, IsHad, HasItsIdentifier, AreSound, Grows, HasItsOrigin, IsPassed}

-- ---- more rows that are noted

module _ (rows : Table) (old new : Places) (grows : Grows old new) where
  still_had : (key : RowKey) (i : Text) → IsHad rows old key i → IsHad rows new key i
  still_had key i had = (had.0, had.1, had.2, had.3, grows had.0 key had.4)

  still_identified : (k : Kind) (q : Text) → HasItsIdentifier rows old k q → HasItsIdentifier rows new k q
  still_identified kind.Token q had = (had.0, had.1, still_had (kind.Token, q) had.0 had.2)
  still_identified kind.Waiting q had = (had.0, had.1, still_had (kind.Waiting, q) had.0 had.2)
  still_identified kind.Accessor q had = still_had (kind.Accessor, q) q had
  still_identified kind.Credential q had = still_had (kind.Credential, q) q had
  still_identified kind.Lease q had = still_had (kind.Lease, q) _ had
  still_identified _ q had = tt

  still_of_origin : (k : Kind) (q : Text) (row : Row) → HasItsOrigin rows old k q row → HasItsOrigin rows new k q row
  still_of_origin kind.Waiting q row had =
      (had.0, (had.1.0, still_had (kind.Waiting, q) had.0.origin had.1.1), had.2)
  still_of_origin _ q row had = tt

-- what was passed stays so
pub still_passed : (rows : Table) (i j o p : Places) → Grows i j → Grows o p → (e : RowKey × Row) → IsPassed rows i o e
    → IsPassed rows j p e
still_passed rows i j o p more_i more_o e passed =
    record {
      sound = passed.sound;
      identifier = still_identified rows i j more_i e.0.0 e.0.1 passed.identifier;
      origin = still_of_origin rows o p more_o e.0.0 e.0.1 e.1 passed.origin;
      chain = passed.chain;
    }

-- nothing grows less
pub grows_further : (a b c : Places) → Grows a b → Grows b c → Grows a c
grows_further a b c ab bc = λ word key is. bc word key (ab word key is)

-- ---- all rows

-- rows that were all passed keep the rules
pub passed_sound : (rows : Table) (identifiers origins : Places) → rows kind.Clock [] ≢ None
    → ((e : RowKey × Row) → IsEntry rows e → IsPassed rows identifiers origins e) → AreSound rows
passed_sound rows identifiers origins clock passed =
    record {
      clock = clock;
      each = λ k q row is. (passed ((k, q), row) is).sound;
      identifiers = (identifiers, λ k q row is. (passed ((k, q), row) is).identifier);
      origins = (origins, λ t row is. (passed ((kind.Waiting, t), row) is).origin);
      chains = λ t row is. (passed ((kind.Token, t), row) is).chain;
    }
