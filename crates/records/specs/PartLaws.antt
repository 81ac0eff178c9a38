-- Which rows a part of a broker has: another value of the part leaves the rows of all other kinds (this project's).
use Rattle.std.proofs.Common.{◌≡◌, ℕ, true, false, option_map, refl, sym, ◌∙◌, ap, true≢false}
use Rattle.broker_types.specs.Words.{⊤, false≢true, Text, Map, get, Tokens, Key, Broker, Waiting, Mount, Role}
use Rattle.records.specs.declared.kind.Kind.{Kind}
use Rattle.records.specs.declared.kind.Kind.TheVariants as kind
use Rattle.records.specs.Parts.{Part, Tells, KeepsOthers, of_tokens, of_tokens_and_theirs, of_secrets, of_waiting}
use Rattle.records.specs.Parts.{of_mounts, of_policies, of_roles, of_used, of_clock}
use Rattle.records.specs.RowForms.{mount_row}
use Rattle.records.specs.Rows.{rows_of}
use Rattle.records.specs.Table.{Table}

-- the rows outside of the part are those of both brokers
abbrev pub AgreeOutside : Part → Broker → Broker → Type 0
AgreeOutside part b c = KeepsOthers part (rows_of b) (rows_of c)

-- if a table had the rows of b, and an operation made the part that of c and left the rest, it has the rows of c
pub joined_rows : (part : Part) (old new : Table) (b c : Broker) → old ≡ rows_of b → Tells part new c
    → KeepsOthers part old new → AgreeOutside part b c → new ≡ rows_of c
joined_rows part old new b c was tells keeps agree = λ i k q. at k q i
  where
    at : (k : Kind) (q : Text) → new k q ≡ rows_of c k q
    at k q =
        elim (part k) as (λ v. part k ≡ v → new k q ≡ rows_of c k q) [
          | true ↦ λ inside. tells k q inside
          | false ↦ λ outside. keeps k q outside ∙ ap (λ (t : Table). t k q) was ∙ sym (agree k q outside)
        ] refl

-- the rows that the tokens, with their cubbyholes and leases, have
pub rows_of-other_tokens : (b : Broker) (x : Tokens) → AgreeOutside of_tokens_and_theirs b (record b { tokens = x })
unfolding rows_of
rows_of-other_tokens b x kind.Token q h = absurd (true≢false h)
rows_of-other_tokens b x kind.Accessor q h = absurd (true≢false h)
rows_of-other_tokens b x kind.Cubby q h = absurd (true≢false h)
rows_of-other_tokens b x kind.Lease q h = absurd (true≢false h)
rows_of-other_tokens b x kind.Credential q h = absurd (true≢false h)
rows_of-other_tokens b x _ q h = refl

-- the rows that the secrets have
pub rows_of-other_secrets : (b : Broker) (x : Map Key) → AgreeOutside of_secrets b (record b { secrets = x })
unfolding rows_of
rows_of-other_secrets b x kind.KvKey q h = absurd (true≢false h)
rows_of-other_secrets b x kind.KvVersion q h = absurd (true≢false h)
rows_of-other_secrets b x _ q h = refl

-- the rows that the waiting responses have
pub rows_of-other_waiting : (b : Broker) (x : Map Waiting) → AgreeOutside of_waiting b (record b { waiting = x })
unfolding rows_of
rows_of-other_waiting b x kind.Accessor q h = absurd (true≢false h)
rows_of-other_waiting b x kind.Waiting q h = absurd (true≢false h)
rows_of-other_waiting b x _ q h = refl

-- the rows that the mounts have
pub rows_of-other_mounts : (b : Broker) (x : Map Mount) → AgreeOutside of_mounts b (record b { mounts = x })
unfolding rows_of
rows_of-other_mounts b x kind.Mount q h = absurd (true≢false h)
rows_of-other_mounts b x _ q h = refl

-- the rows that the policies have
pub rows_of-other_policies : (b : Broker) (x : Map Text) → AgreeOutside of_policies b (record b { policies = x })
unfolding rows_of
rows_of-other_policies b x kind.Policy q h = absurd (true≢false h)
rows_of-other_policies b x _ q h = refl

-- the rows that the roles have
pub rows_of-other_roles : (b : Broker) (x : Map Role) → AgreeOutside of_roles b (record b { roles = x })
unfolding rows_of
rows_of-other_roles b x kind.Role q h = absurd (true≢false h)
rows_of-other_roles b x _ q h = refl

-- the rows that the identifiers given out have
pub rows_of-other_used : (b : Broker) (x : Map ⊤) → AgreeOutside of_used b (record b { used = x })
unfolding rows_of
rows_of-other_used b x kind.Used q h = absurd (true≢false h)
rows_of-other_used b x _ q h = refl

-- the rows that the clock has
pub rows_of-other_clock : (b : Broker) (x : ℕ) → AgreeOutside of_clock b (record b { clock = x })
unfolding rows_of
rows_of-other_clock b x kind.Clock q h = absurd (true≢false h)
rows_of-other_clock b x _ q h = refl

-- what holds of both kinds of the tokens holds of each
pub by_token_kind : (P : Kind → Type 0) → P kind.Token → P kind.Accessor → (k : Kind) → of_tokens k ≡ true → P k
by_token_kind P t a kind.Token h = t
by_token_kind P t a kind.Accessor h = a
by_token_kind P t a _ h = absurd (false≢true h)

-- the rows of mounts
pub mount_rows : (b : Broker) (q : Text) → rows_of b kind.Mount q ≡ option_map mount_row (get b.mounts q)
unfolding rows_of
mount_rows b q = refl
