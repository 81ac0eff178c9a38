-- Laws of tokens as rows, as statements (this project's; Vault's documentation, "Tokens").
use Rattle.std.specs.Prelude.{◌≡◌, ◌≢◌, ◌&&◌, ℕ, true, false, not, Option, Some, None, is_some}
use Rattle.records.specs.Words.{Text, same, get, empty, Token, is_under, is_alive, Broker, revoke, revoke_orphan}
use Rattle.records.specs.Words.{OnePlaceEach, token_identifier, Evolves, IsNew, Forms, Sound, IsEnd, of_tokens, Tells}
use Rattle.records.specs.Words.{token_row, Table}
use Rattle.records.specs.declared.kind.Kind.TheVariants as kind
use Rattle.token_tree.specs.Tokens.{find_accessor, has_ended, without_expired, created, renew, MayBeMade}

-- ---- what is found after revocation

-- no token under the revoked one is found afterwards
abbrev pub RevokedAreNotFound : Type 0
RevokedAreNotFound =
    (b : Broker) (t q : Text) (rows : Table) → Tells of_tokens rows (revoke b t)
    → is_under b.tokens q t ≡ true → rows kind.Token q ≡ None

-- a token that is not under it is found as before
abbrev pub OthersAreFound : Type 0
OthersAreFound =
    (b : Broker) (t q : Text) (old new : Table) → Tells of_tokens old b → Tells of_tokens new (revoke b t)
    → is_under b.tokens q t ≡ false → new kind.Token q ≡ old kind.Token q

-- the children of a token that was revoked alone have no parent
abbrev pub ChildrenAreOrphans : Type 0
ChildrenAreOrphans =
    (b : Broker) (t q : Text) (x : Token) (rows : Table) → Tells of_tokens rows (revoke_orphan b t) → q ≢ t
    → get b.tokens q ≡ Some x → x.parent ≡ Some t → rows kind.Token q ≡ Some (token_row (record x { parent = None }))

-- ---- which tokens end

-- by revocation, a token and all under it
abbrev pub EndedByRevocation : Type 0
EndedByRevocation = (b : Broker) (t q : Text) → has_ended b (revoke b t) q ≡ is_under b.tokens q t

-- by revocation alone, the token
abbrev pub EndedAlone : Type 0
EndedAlone = (b : Broker) (t q : Text) → has_ended b (revoke_orphan b t) q ≡ (is_some (get b.tokens q) && same q t)

-- by now, what is not alive
abbrev pub EndedByNow : Type 0
EndedByNow = (b : Broker) (now : ℕ) (q : Text) → has_ended b (without_expired b now) q ≡ not (is_alive now b.tokens q)

-- ---- accessors

-- the accessor of a token names it
abbrev pub AccessorsNameTheirTokens : Type 0
AccessorsNameTheirTokens =
    (b : Broker) (t : Text) (x : Token) → OnePlaceEach b → get b.tokens t ≡ Some x
    → find_accessor b x.accessor ≡ Some t

-- and what an accessor names is a token that has it
abbrev pub NamedTokensHaveTheirAccessors : Type 0
NamedTokensHaveTheirAccessors =
    (b : Broker) (t accessor : Text) → find_accessor b accessor ≡ Some t
    → (x : Token) × (get b.tokens t ≡ Some x) × (x.accessor ≡ accessor)

-- ---- a token made or renewed leaves a sound broker sound, whoever may have spent its last use

-- a token made under new identifiers
abbrev pub CreationKeepsSoundness : Type 0
CreationKeepsSoundness =
    (forms : Forms) (who : Option Text) (b : Broker) (t : Text) (x : Token) → Sound forms who b
    → MayBeMade forms b t x → Sound forms who (created b t x)

-- a token renewed by an end in range
abbrev pub RenewalKeepsSoundness : Type 0
RenewalKeepsSoundness =
    (forms : Forms) (who : Option Text) (b : Broker) (t : Text) (ends : ℕ) → Sound forms who b → IsEnd ends
    → Sound forms who (renew b t ends)

-- ---- and lets a broker evolve

-- a token made under a new identifier, without leases
abbrev pub CreationEvolves : Type 0
CreationEvolves =
    (b : Broker) (t : Text) (x : Token) → IsNew b (token_identifier t) → x.leases ≡ empty → Evolves b (created b t x)

-- a token renewed
abbrev pub RenewalEvolves : Type 0
RenewalEvolves = (b : Broker) (t : Text) (ends : ℕ) → Evolves b (renew b t ends)
