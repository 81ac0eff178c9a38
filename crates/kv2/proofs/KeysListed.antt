-- The names of secrets, and the keys of their rows.
use Rattle.std.proofs.Common.{◌≡◌, [], is_some, Option, Some, None, option_map, refl, sym, ◌∙◌, ap}
use Rattle.records.specs.Words.{contains_key-keys, get, keys, Key, Broker, AreNames, of_secrets, Tells, key_row}
use Rattle.records.specs.Words.{table_of, Rows, has_by_order}
use Rattle.records.specs.declared.kind.Kind.TheVariants as kind
use Rattle.kv2.proofs.SecretsTold.{key_rows}

-- the rows of keys are named by the secrets
pub secrets_name : (rows : Rows) (b : Broker) → Tells of_secrets (table_of rows) b
    → AreNames rows kind.KvKey [] (keys b.secrets)
secrets_name rows b told q =
    ap is_some (told kind.KvKey q refl ∙ key_rows b q) ∙ some-map (get b.secrets q)
    ∙ contains_key-keys b.secrets q ∙ sym (has_by_order q (keys b.secrets))
  where
    some-map : (o : Option Key) → is_some (option_map key_row o) ≡ is_some o
    some-map None = refl
    some-map (Some k) = refl
