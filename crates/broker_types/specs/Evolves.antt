-- How a broker may change from one request to the next: what it has, it had before, or it is new (this project's
-- definition).
use Rattle.std.specs.Prelude.{◌≡◌, ◌≢◌, ◌⊎◌, Some, None}
use Rattle.broker_types.specs.Text.{Text}
use Rattle.broker_types.specs.Map.{get}
use Rattle.broker_types.specs.Token.{Token, Lease}
use Rattle.broker_types.specs.Broker.{Broker, Waiting}
use Rattle.broker_types.specs.IdentifierPlaces.{IsUsed, token_identifier, lease_identifier, lease_of}

-- the identifier was not given out before
abbrev pub IsNew : Broker → Text → Type 0
IsNew b i = get b.used i ≡ None

-- a response that waited before, perhaps under another wrapping token
abbrev pub WaitedBefore : Broker → Waiting → Type 0
WaitedBefore b w =
    (t : Text) × (v : Waiting) × (get b.waiting t ≡ Some v) × (w.origin ≡ v.origin) × (w.reply ≡ v.reply)

-- a lease that the token t had before, with the same credential
abbrev pub WasBefore : Broker → Text → Text → Lease → Type 0
WasBefore b t lease_id l = (k : Lease) × (lease_of b t lease_id ≡ Some k) × (k.credential ≡ l.credential)

-- a lease whose identifiers are both new
abbrev pub IsNewLease : Broker → Text → Lease → Type 0
IsNewLease b lease_id l = IsNew b (lease_identifier lease_id) × IsNew b l.credential

-- c may follow b
pub record Evolves (b c : Broker) : Type 0 where
  pub used : (i : Text) → IsUsed b i → IsUsed c i
  pub tokens : (t : Text) (x : Token)
      → get c.tokens t ≡ Some x → (get b.tokens t ≢ None) ⊎ IsNew b (token_identifier t)
  pub leases : (t lease_id : Text) (l : Lease)
      → lease_of c t lease_id ≡ Some l → WasBefore b t lease_id l ⊎ IsNewLease b lease_id l
  pub wrapping_tokens : (t : Text) (w : Waiting)
      → get c.waiting t ≡ Some w → (get b.waiting t ≢ None) ⊎ IsNew b (token_identifier t)
  pub waiting : (t : Text) (w : Waiting) → get c.waiting t ≡ Some w → WaitedBefore b w ⊎ IsNew b w.origin

-- an origin whose response was handed out or dropped: it was given out, and no response that waits has it
pub record OriginIsGone (b : Broker) (o : Text) : Type 0 where
  pub used : IsUsed b o
  pub gone : (t : Text) (w : Waiting) → get b.waiting t ≡ Some w → w.origin ≢ o

-- a token that ended: its identifier was given out, and it is neither a token nor a wrapping token any more
pub record HasEnded (b : Broker) (t : Text) : Type 0 where
  pub used : IsUsed b (token_identifier t)
  pub gone : get b.tokens t ≡ None
  pub not_waiting : get b.waiting t ≡ None

-- a lease that ended: its identifier and its credential were given out, and no token has a lease with either any more
pub record LeaseHasEnded (b : Broker) (lease_id credential : Text) : Type 0 where
  pub used : IsUsed b (lease_identifier lease_id)
  pub credential_used : IsUsed b credential
  pub gone : (t j : Text) (l : Lease) → lease_of b t j ≡ Some l → (j ≢ lease_id) × (l.credential ≢ credential)

-- a wrapping token that was taken out: it was given out, and nothing waits under it any more
pub record IsTakenOut (b : Broker) (t : Text) : Type 0 where
  pub used : IsUsed b (token_identifier t)
  pub gone : get b.waiting t ≡ None
