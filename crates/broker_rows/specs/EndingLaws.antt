-- The rows that are left when tokens have ended and what belonged to them was dropped.
use Rattle.std.proofs.Common.{◌≡◌, ◌∷◌, List, [], true, false, refl, ◌∙◌, ap, true≢false}
use Rattle.broker_model.specs.Words.{false≢true, or_parts, Text, Tokens, Broker, Kind, joined_rows}
use Rattle.broker_model.specs.Words.{rows_of-other_tokens, Tells, KeepsOthers, of_tokens, of_cubbyholes, of_leases}
use Rattle.broker_model.specs.Words.{of_tokens_and_theirs, rows_of, Table, table_of, without_under, Rows}
use Rattle.broker_model.specs.Words.{without_cubbyholes, object_key}
use Rattle.records.specs.declared.kind.Kind.TheVariants as kind
use Rattle.broker_rows.specs.Ending.{of_belongings, LeavesNothing}

-- ---- on any rows

-- only rows of cubbyholes are dropped
pub others_kept : (ended : List Text) (rows : Table) → KeepsOthers of_cubbyholes rows (without_cubbyholes rows ended)
others_kept [] rows k q h = refl
others_kept (t ∷ ended) rows k q h = others_kept ended (without_under rows kind.Cubby (object_key t [])) k q h ∙ one k h
  where
    one : (k : Kind) → of_cubbyholes k ≡ false → without_under rows kind.Cubby (object_key t []) k q ≡ rows k q
    one kind.Cubby h = absurd (true≢false h)
    one _ h = refl

-- no other row goes with tokens that ended
pub leaves_others : (ended : List Text) (old new : Rows) → LeavesNothing ended old new
    → KeepsOthers of_belongings (table_of old) (table_of new)
leaves_others ended old new leaves k q h =
    let apart = or_parts (of_cubbyholes k) (of_leases k) h in
    ap (λ (z : Table). z k q) leaves.cubbyholes ∙ others_kept ended (table_of leaves.mid) k q apart.0
    ∙ leaves.leases.others k q apart.1

-- ---- on the rows of a broker

-- rows of tokens, cubbyholes and leases that are those of other tokens, where nothing else has changed
pub other_tokens : (b : Broker) (us : Tokens) (old new : Table) → old ≡ rows_of b
    → Tells of_tokens new (record b { tokens = us }) → Tells of_cubbyholes new (record b { tokens = us })
    → Tells of_leases new (record b { tokens = us }) → KeepsOthers of_tokens_and_theirs old new
    → new ≡ rows_of (record b { tokens = us })
other_tokens b us old new was tokens objects leases others =
    joined_rows of_tokens_and_theirs old new b c was told others (rows_of-other_tokens b us)
  where
    c : Broker
    c = record b { tokens = us }

    told : Tells of_tokens_and_theirs new c
    told kind.Token q h = tokens kind.Token q refl
    told kind.Accessor q h = tokens kind.Accessor q refl
    told kind.Cubby q h = objects kind.Cubby q refl
    told kind.Lease q h = leases kind.Lease q refl
    told kind.Credential q h = leases kind.Credential q refl
    told _ q h = absurd (false≢true h)

-- what belongs to tokens is no row of a token
pub no_token : (k : Kind) → of_belongings k ≡ true → of_tokens k ≡ false
no_token kind.Cubby h = refl
no_token kind.Lease h = refl
no_token kind.Credential h = refl
no_token _ h = absurd (false≢true h)

-- an object is what belongs to a token, and no lease
pub is_object : (k : Kind) → of_cubbyholes k ≡ true → (of_belongings k ≡ true) × (of_leases k ≡ false)
is_object kind.Cubby h = (refl, refl)
is_object _ h = absurd (false≢true h)

-- and so is a lease, which is no object
pub is_lease : (k : Kind) → of_leases k ≡ true → (of_belongings k ≡ true) × (of_cubbyholes k ≡ false)
is_lease kind.Lease h = (refl, refl)
is_lease kind.Credential h = (refl, refl)
is_lease _ h = absurd (false≢true h)

-- what neither is a token nor belongs to one
pub is_elsewhere : (k : Kind) → of_tokens_and_theirs k ≡ false → (of_tokens k ≡ false) × (of_belongings k ≡ false)
is_elsewhere kind.Token h = absurd (true≢false h)
is_elsewhere kind.Accessor h = absurd (true≢false h)
is_elsewhere kind.Cubby h = absurd (true≢false h)
is_elsewhere kind.Lease h = absurd (true≢false h)
is_elsewhere kind.Credential h = absurd (true≢false h)
is_elsewhere _ h = (refl, refl)
