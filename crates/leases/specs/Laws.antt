-- Laws of leases and roles, as statements (this project's; Vault's documentation, "Lease, renew, and revoke").
use Rattle.std.specs.Prelude.{◌≡◌, ◌≢◌, ◌≤◌, ◌+◌, ◌∷◌, ◌&&◌, [], ℕ, true, false, List, Option, Some, None, is_some, Ok}
use Rattle.records.specs.Words.{is_none, Text, longest_duration, longest_ttl, Map, get, is_name, is_mount_name, Token}
use Rattle.records.specs.Words.{Tokens, Lease, Broker, Role, Evolves, IsNew, OnePlaceEach, lease_of, lease_identifier}
use Rattle.records.specs.Words.{Forms, Sound, IsIdentifier, IsMoment, IsSoundLease, use_up, has, AgreeOutside}
use Rattle.records.specs.Words.{of_leases, Tells, Table}
use Rattle.leases.specs.Leases.{edited, issue, with_renewed, renewed, revoke, revoke_under, drop_owner, without_expired}
use Rattle.leases.specs.Leases.{live}
use Rattle.leases.specs.Endings.{Ending, EndsLeases, AreReadable, Leaves, either, are_owned, has_come}
use Rattle.leases.specs.LeaseRows.{RepresentsLeases}
use Rattle.leases.specs.Roles.{set_role, remove_role, drop_roles, lease_id, new_lease}

-- ---- a new lease

-- the broker with one more lease, whose identifier and credential have been given out
abbrev pub issued : Broker → Text → Text → Lease → Broker
issued b t id l = record (issue b t id l) { used = use_up b.used (lease_identifier id ∷ l.credential ∷ []) }

-- the lease may be made: it is sound, its token is there, and its identifiers are new and differ
pub record MayBeIssued (b : Broker) (t id : Text) (l : Lease) : Type 0 where
  pub sound : IsSoundLease id l
  pub here : get b.tokens t ≢ None
  pub id_is_new : IsNew b (lease_identifier id)
  pub credential_is_new : IsNew b l.credential
  pub differ : lease_identifier id ≢ l.credential

-- the lease of a sound role, made under an identifier, is sound
abbrev pub NewLeasesAreSound : Type 0
NewLeasesAreSound =
    (mount name identifier credential : Text) (now : ℕ) (r : Role) → is_mount_name mount ≡ true → is_name name ≡ true
    → IsIdentifier identifier → IsIdentifier credential → IsMoment now
    → IsSoundLease (lease_id mount name identifier) (new_lease now r credential)

-- its identifier is what its id ends with
abbrev pub IdsEndWithIdentifiers : Type 0
IdsEndWithIdentifiers =
    (mount name identifier : Text) → IsIdentifier identifier
    → lease_identifier (lease_id mount name identifier) ≡ identifier

-- a lease ends within its longest time, which is no longer than its role says, nor than 32 days
pub record IsBounded (r : Role) (l : Lease) : Type 0 where
  pub ends : l.ends ≤ l.issued + l.max_ttl
  pub role : r.max_ttl ≢ 0 → l.max_ttl ≤ r.max_ttl
  pub days : l.max_ttl ≤ longest_ttl

-- so does each lease that is made for a role
abbrev pub LeasesAreBounded : Type 0
LeasesAreBounded = (now : ℕ) (r : Role) (credential : Text) → IsBounded r (new_lease now r credential)

-- what a renewal leaves of a lease: when it was made, its longest time, and an end within it
pub record StaysBounded (l m : Lease) : Type 0 where
  pub issued : m.issued ≡ l.issued
  pub max_ttl : m.max_ttl ≡ l.max_ttl
  pub ends : m.ends ≤ m.issued + m.max_ttl

abbrev pub RenewalsAreBounded : Type 0
RenewalsAreBounded = (now increment : ℕ) (l : Lease) → StaysBounded l (renewed now increment l)

-- ---- soundness is kept, whoever may have spent its last use

-- by a lease that may be made
abbrev pub IssueKeepsSoundness : Type 0
IssueKeepsSoundness =
    (forms : Forms) (who : Option Text) (b : Broker) (t id : Text) (l : Lease) → Sound forms who b
    → MayBeIssued b t id l → Sound forms who (issued b t id l)

-- by a renewal
abbrev pub RenewalKeepsSoundness : Type 0
RenewalKeepsSoundness =
    (forms : Forms) (who : Option Text) (b : Broker) (id : Text) (increment : ℕ) → Sound forms who b
    → Sound forms who (with_renewed b id increment)

-- by the end of leases
pub record EndsKeepSoundness : Type 0 where
  pub revoked : (forms : Forms) (who : Option Text) (b : Broker) (id : Text) → Sound forms who b
      → Sound forms who (revoke b id)
  pub under : (forms : Forms) (who : Option Text) (b : Broker) (prefix : Text) → Sound forms who b
      → Sound forms who (revoke_under b prefix)
  pub dropped : (forms : Forms) (who : Option Text) (b : Broker) (t : Text) → Sound forms who b
      → Sound forms who (drop_owner b t)
  pub expired : (forms : Forms) (who : Option Text) (b : Broker) (now : ℕ) → Sound forms who b
      → Sound forms who (without_expired b now)

-- and by edits of roles
pub record RolesKeepSoundness : Type 0 where
  pub set : (forms : Forms) (who : Option Text) (b next : Broker) (mount name : Text) (r : Role) → Sound forms who b
      → is_mount_name mount ≡ true → r.ttl ≤ longest_duration → r.max_ttl ≤ longest_duration
      → set_role b mount name r ≡ Ok next → Sound forms who next
  pub removed : (forms : Forms) (who : Option Text) (b : Broker) (mount name : Text) → Sound forms who b
      → Sound forms who (remove_role b mount name)
  pub dropped : (forms : Forms) (who : Option Text) (b : Broker) (mount : Text) → Sound forms who b
      → Sound forms who (drop_roles b mount)

-- ---- brokers evolve

-- by a lease whose identifiers are new
abbrev pub IssueEvolves : Type 0
IssueEvolves =
    (b : Broker) (t id : Text) (l : Lease) → get b.tokens t ≢ None → IsNew b (lease_identifier id)
    → IsNew b l.credential → Evolves b (issued b t id l)

-- by a renewal
abbrev pub RenewalEvolves : Type 0
RenewalEvolves = (b : Broker) (id : Text) (increment : ℕ) → Evolves b (with_renewed b id increment)

-- and by the end of leases
pub record EndsEvolve : Type 0 where
  pub revoked : (b : Broker) (id : Text) → Evolves b (revoke b id)
  pub under : (b : Broker) (prefix : Text) → Evolves b (revoke_under b prefix)
  pub dropped : (b : Broker) (t : Text) → Evolves b (drop_owner b t)
  pub expired : (b : Broker) (now : ℕ) → Evolves b (without_expired b now)

-- ---- rows

-- an edit of leases leaves all other rows
abbrev pub EditsShowInLeases : Type 0
EditsShowInLeases = (b : Broker) (edit : Text → Map Lease → Map Lease) → AgreeOutside of_leases b (edited b edit)

-- brokers whose tokens have the same leases have the same rows of leases
abbrev pub SameLeasesSameRows : Type 0
SameLeasesSameRows =
    (b c : Broker) (rows : Table) → OnePlaceEach b → ((t id : Text) → lease_of c t id ≡ lease_of b t id)
    → Tells of_leases rows b → Tells of_leases rows c

-- nothing ends where nothing is to end
abbrev pub NothingEnds : Type 0
NothingEnds = (rows : Table) → EndsLeases (λ q row. false) rows rows

-- leases that end one after another have ended
abbrev pub EndsAddUp : Type 0
EndsAddUp =
    (first second : Ending) (old mid new : Table) → EndsLeases first old mid → EndsLeases second mid new
    → EndsLeases (either first second) old new

-- ---- leases of tokens that ended

-- if leases of b have ended, and c has the others, the rows are those of c
abbrev pub EndedAreTold : Type 0
EndedAreTold =
    (ends : Ending) (old new : Table) (b c : Broker) → RepresentsLeases old b → EndsLeases ends old new
    → Leaves ends b c → Tells of_leases new c

-- the ended are tokens of ts, and are none of us; each other token is in us, with what f makes of its leases
pub record AreLeft (f : Map Lease → Map Lease) (ts us : Tokens) (ended : List Text) : Type 0 where
  pub exact : (t : Text) → has ended t ≡ (is_some (get ts t) && is_none (get us t))
  pub kept : (t : Text) (y : Token) → get us t ≡ Some y
      → (x : Token) × (get ts t ≡ Some x) × (y.leases ≡ f x.leases)

-- where tokens have ended, their leases end with them
abbrev pub LeasesGoWithTokens : Type 0
LeasesGoWithTokens =
    (b : Broker) (us : Tokens) (ended : List Text) → AreLeft (λ m. m) b.tokens us ended
    → Leaves (are_owned ended) b (record b { tokens = us })

-- where tokens have come to their end by now, so have leases, and those of these tokens end too
abbrev pub LeasesExpireToo : Type 0
LeasesExpireToo =
    (b : Broker) (us : Tokens) (now : ℕ) (ended : List Text) → AreLeft (live now) b.tokens us ended
    → Leaves (either (has_come now) (are_owned ended)) b (record b { tokens = us })

-- ---- rows that can be read

-- the rows of a broker's leases
abbrev pub RepresentedAreReadable : Type 0
RepresentedAreReadable = (ends : Ending) (rows : Table) (b : Broker) → RepresentsLeases rows b → AreReadable ends rows

-- and what is left of rows that can be read, once leases have ended
abbrev pub LeftAreReadable : Type 0
LeftAreReadable =
    (ends other : Ending) (old new : Table) → EndsLeases ends old new → AreReadable other old → AreReadable other new
