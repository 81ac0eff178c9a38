-- Tables by kinds: what tells secrets, and what tells mounts.
use Rattle.std.proofs.Common.{◌≡◌, option_map, sym, ◌∙◌}
use Rattle.records.specs.Words.{false≢true, Text, get, Broker, of_secrets, of_mounts, Tells, key_row, mount_row}
use Rattle.records.specs.Words.{version_at, Table, mount_rows}
use Rattle.records.specs.declared.kind.Kind.TheVariants as kind
use Rattle.kv2.proofs.SecretsTold.{key_rows, version_rows}
use Rattle.kv2.proofs.VersionRows.{at_parts}

-- a table that has the rows of keys and of versions
pub secrets_by : (t : Table) (b : Broker) → ((q : Text) → t kind.KvKey q ≡ option_map key_row (get b.secrets q))
    → ((q : Text) → t kind.KvVersion q ≡ at_parts (version_at b.secrets) q) → Tells of_secrets t b
secrets_by t b keys versions kind.Clock q p = absurd (false≢true p)
secrets_by t b keys versions kind.Used q p = absurd (false≢true p)
secrets_by t b keys versions kind.Token q p = absurd (false≢true p)
secrets_by t b keys versions kind.Accessor q p = absurd (false≢true p)
secrets_by t b keys versions kind.Cubby q p = absurd (false≢true p)
secrets_by t b keys versions kind.Lease q p = absurd (false≢true p)
secrets_by t b keys versions kind.Credential q p = absurd (false≢true p)
secrets_by t b keys versions kind.KvKey q p = keys q ∙ sym (key_rows b q)
secrets_by t b keys versions kind.KvVersion q p = versions q ∙ sym (version_rows b q)
secrets_by t b keys versions kind.Waiting q p = absurd (false≢true p)
secrets_by t b keys versions kind.Mount q p = absurd (false≢true p)
secrets_by t b keys versions kind.Policy q p = absurd (false≢true p)
secrets_by t b keys versions kind.Role q p = absurd (false≢true p)

-- a table that has the rows of mounts
pub mounts_by : (t : Table) (b : Broker) → ((q : Text) → t kind.Mount q ≡ option_map mount_row (get b.mounts q))
    → Tells of_mounts t b
mounts_by t b mounts kind.Clock q p = absurd (false≢true p)
mounts_by t b mounts kind.Used q p = absurd (false≢true p)
mounts_by t b mounts kind.Token q p = absurd (false≢true p)
mounts_by t b mounts kind.Accessor q p = absurd (false≢true p)
mounts_by t b mounts kind.Cubby q p = absurd (false≢true p)
mounts_by t b mounts kind.Lease q p = absurd (false≢true p)
mounts_by t b mounts kind.Credential q p = absurd (false≢true p)
mounts_by t b mounts kind.KvKey q p = absurd (false≢true p)
mounts_by t b mounts kind.KvVersion q p = absurd (false≢true p)
mounts_by t b mounts kind.Waiting q p = absurd (false≢true p)
mounts_by t b mounts kind.Mount q p = mounts q ∙ sym (mount_rows b q)
mounts_by t b mounts kind.Policy q p = absurd (false≢true p)
mounts_by t b mounts kind.Role q p = absurd (false≢true p)
