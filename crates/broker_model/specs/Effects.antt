-- What each operation leaves, as its traits tell it (this project's definition).
use Rattle.std.specs.Prelude.{◌≡◌, ◌≢◌, ◌⊎◌, ◌<◌, ◌≤◌, ◌||◌, ℕ, List, [], Bool, true, false, ⊤, Option, Some, None, Ok}
use Rattle.std.specs.FinMap as fin
use Rattle.records.specs.Words.{list_any, Text, same, Map, get, Token, Lease, Broker, Waiting, WasBefore, WaitedBefore}
use Rattle.records.specs.Words.{Names, Answered, nothing, reply, kept_text, missing, Done, lease_identifier, lease_of}
use Rattle.records.specs.Words.{token_identifier, Key, Version, Reply, Part}
use Rattle.records.specs.declared.kind.Kind.TheVariants as kind
use Rattle.broker_model.specs.Command.{Command}
use Rattle.broker_model.specs.Order.{HandsOut}
use Rattle.broker_model.specs.Step.{traits}
use Rattle.broker_model.specs.Traits.{Fate, may_change, make, orphan, renew, revoke, stay, text_named}
use Rattle.broker_model.specs.parts.Tokens as tokens

-- ---- what is given out, and what is answered

-- among those that were given out
abbrev pub IsGiven : List Text → Text → Type 0
IsGiven taken i = list_any (same i) taken ≡ true

-- whether an answer is the text of a response that waited
abbrev pub is_kept : Answered → Bool
is_kept (kept_text t) = true
is_kept _ = false

-- ---- maps

-- what may not change is as it was
abbrev pub SameUnless : {X : Type 0} → Bool → X → X → Type 0
SameUnless true old new = ⊤
SameUnless false old new = new ≡ old

-- The clock and the used identifiers are as they were, and so is each map of which no row may change.
pub record KeepsMaps (changes : Option Part) (b next : Broker) : Type 0 where
  pub clock : next.clock ≡ b.clock
  pub used : next.used ≡ b.used
  pub tokens : SameUnless
      (may_change changes kind.Token || may_change changes kind.Cubby || may_change changes kind.Lease) b.tokens
      next.tokens
  pub secrets : SameUnless (may_change changes kind.KvKey) b.secrets next.secrets
  pub waiting : SameUnless (may_change changes kind.Waiting) b.waiting next.waiting
  pub mounts : SameUnless (may_change changes kind.Mount) b.mounts next.mounts
  pub roles : SameUnless (may_change changes kind.Role) b.roles next.roles
  pub policies : SameUnless (may_change changes kind.Policy) b.policies next.policies

-- ---- tokens

-- the token with this cubbyhole and these leases
abbrev pub with_theirs : Map Text → Map Lease → Token → Token
with_theirs cubbyhole leases x = record x { cubbyhole = cubbyhole; leases = leases }

-- y is what became of the token x at q: it is x, but for its cubbyhole if it is the caller, and for its leases.
pub record StaysAt (changes : Option Part) (who : Option Text) (q : Text) (x y : Token) : Type 0 where
  pub rest : y ≡ with_theirs y.cubbyhole y.leases x
  pub cubbyhole : (y.cubbyhole ≡ x.cubbyhole) ⊎ ((may_change changes kind.Cubby ≡ true) × (who ≡ Some q))
  pub leases : (y.leases ≡ x.leases) ⊎ (may_change changes kind.Lease ≡ true)

-- P holds of the two, or neither is there
abbrev pub Both : {X : Type 0} → (X → X → Type 0) → Option X → Option X → Type 0
Both P None None = ⊤
Both P (Some x) (Some y) = P x y
Both P _ _ = ⊥

-- a lease of the caller, whose identifiers were given out
abbrev pub IsNewTo : Option Text → List Text → Text → Text → Lease → Type 0
IsNewTo who taken q lease_id l = (who ≡ Some q) × IsGiven taken (lease_identifier lease_id) × IsGiven taken l.credential

-- Each token stays, and no other is there. Each lease was the same token's, with the same credential, or is a new one
-- of the caller.
pub record Stay (changes : Option Part) (who : Option Text) (taken : List Text) (b next : Broker) : Type 0 where
  pub tokens : (q : Text) → Both (StaysAt changes who q) (get b.tokens q) (get next.tokens q)
  pub leases : (q lease_id : Text) (l : Lease) → lease_of next q lease_id ≡ Some l
      → WasBefore b q lease_id l ⊎ IsNewTo who taken q lease_id l

-- what the fate says: tokens stay, or the caller makes a token, or renews or revokes what it names
abbrev pub IsFated : Fate → Option Part → Broker → Option Text → Names → Done → Type 0
IsFated stay changes b who names d = Stay changes who d.taken b d.next
IsFated (make making asked) changes b who names d =
    (c : Text) × (who ≡ Some c) × (tokens.create b c names making asked ≡ Ok d)
IsFated (renew named increment) changes b who names d =
    (c : Text) × (t : Text) × (who ≡ Some c) × (text_named b c named ≡ Some t)
    × (tokens.renew_token b names t increment ≡ Ok d)
IsFated (revoke named) changes b who names d =
    (c : Text) × (t : Text) × (who ≡ Some c) × (text_named b c named ≡ Some t) × (d ≡ tokens.revoke_token b t)
IsFated (orphan t) changes b who names d = (c : Text) × (who ≡ Some c) × (d ≡ tokens.revoke_alone b t)

-- ---- secrets

-- What may become of the versions of a secret (Vault's documentation, "KV secrets engine - version 2"): its current
-- number does not go back, a version that was not there has a number above it, and one that was there holds what it
-- held, or nothing.
pub record VersionsStay (k m : Key) : Type 0 where
  pub current : k.current ≤ m.current
  pub numbers : (n : ℕ) → fin.get m.versions n ≢ None → (fin.get k.versions n ≢ None) ⊎ (k.current < n)
  pub held : (n : ℕ) (v w : Version) → fin.get k.versions n ≡ Some v → fin.get m.versions n ≡ Some w
      → (w.secret ≡ v.secret) ⊎ (w.secret ≡ None)

-- so it is of each secret that stays
abbrev pub SecretsStay : Map Key → Map Key → Type 0
SecretsStay ks ms = (q : Text) (k m : Key) → get ks q ≡ Some k → get ms q ≡ Some m → VersionsStay k m

-- no version of the secret has a number that was not given
abbrev pub AreGiven : Key → Type 0
AreGiven k = (n : ℕ) (v : Version) → fin.get k.versions n ≡ Some v → n ≤ k.current

-- nor has one of a secret of the broker
abbrev pub AllGiven : Broker → Type 0
AllGiven b = (q : Text) (k : Key) → get b.secrets q ≡ Some k → AreGiven k

-- ---- the whole

-- What an operation leaves. It gives out its own identifiers or none: none with a 204 or a 404. After a 404 with a
-- reply nothing has changed. What it hands out waited until then, and a text that waited is answered only so, and not
-- if the reply may be wrapped. The only token that it tells is one of its own accessor. What waits did so, or moved to
-- a wrapping token that was given out.
pub record Does (b : Broker) (who : Option Text) (names : Names) (command : Command) (d : Done) : Type 0 where
  pub gives_own : (d.taken ≡ []) ⊎ (d.taken ≡ (traits command).own names)
  pub none_at_204 : d.answered ≡ nothing → d.taken ≡ []
  pub none_at_404 : (r : Reply) → d.answered ≡ missing r → (d.next ≡ b) × (d.taken ≡ [])
  pub hands_out : (o : Text) → d.handed ≡ Some o → HandsOut b d o
  pub keeps_text : (t : Text) → d.answered ≡ kept_text t → d.handed ≢ None
  pub not_kept : (traits command).may_wrap ≡ true → is_kept d.answered ≡ false
  pub made : (r : Reply) (made : Option Text) → d.answered ≡ reply r made → (made ≡ None) ⊎ (made ≡ Some names.accessor)
  pub waiting : (t : Text) (w : Waiting) → get d.next.waiting t ≡ Some w → (get b.waiting t ≡ Some w)
      ⊎ (IsGiven d.taken (token_identifier t) × IsGiven d.taken w.accessor × WaitedBefore b w)
  pub fated : IsFated (traits command).fate (traits command).changes b who names d
  pub versions : AllGiven b → SecretsStay b.secrets d.next.secrets
  pub keeps : KeepsMaps (traits command).changes b d.next
