-- The broker that a start makes (Vault's documentation, "Tokens", root tokens; "Policies", default policy).
use Rattle.std.specs.Prelude.{ℕ, [], ◌∷◌, ◌++◌, false, None, codes}
use Rattle.broker_types.specs.Text.{Text}
use Rattle.broker_types.specs.Map.{empty, put}
use Rattle.broker_types.specs.Identifier.{id}
use Rattle.broker_types.specs.TokenText.{token_text}
use Rattle.broker_types.specs.Token.{Token}
use Rattle.broker_types.specs.Broker.{Broker, Mount, kv}

-- the policy `default`, on one line
unfoldable pub default_policy : Text
default_policy =
    codes "{\"path\":{"
    ++ codes "\"auth/token/lookup-self\":{\"capabilities\":[\"read\"]},"
    ++ codes "\"auth/token/renew-self\":{\"capabilities\":[\"update\"]},"
    ++ codes "\"auth/token/revoke-self\":{\"capabilities\":[\"update\"]},"
    ++ codes "\"cubbyhole/*\":{\"capabilities\":[\"create\",\"read\",\"update\",\"delete\",\"list\"]},"
    ++ codes "\"sys/leases/lookup\":{\"capabilities\":[\"update\"]},"
    ++ codes "\"sys/leases/renew\":{\"capabilities\":[\"update\"]},"
    ++ codes "\"sys/wrapping/lookup\":{\"capabilities\":[\"update\"]},"
    ++ codes "\"sys/wrapping/unwrap\":{\"capabilities\":[\"update\"]},"
    ++ codes "\"sys/wrapping/wrap\":{\"capabilities\":[\"update\"]}"
    ++ codes "}}"

-- a token with the policy `root`, without parent and end
abbrev pub root_token : ℕ → Text → Token
root_token now accessor =
    record {
      parent = None;
      accessor = accessor;
      policies = codes "root" ∷ [];
      issued = now;
      ends = None;
      ttl = 0;
      explicit_max_ttl = 0;
      period = 0;
      uses_left = None;
      meta = empty;
      cubbyhole = empty;
      leases = empty;
    }

-- the mount `secret`
abbrev pub secret_mount : Mount
secret_mount = record { engine = kv; cas_required = false; max_versions = 0 }

-- the broker started at a moment: the root token of one word, with the accessor of another, the mount `secret` and the
-- policy `default`
abbrev pub first_broker : ℕ → ℕ → ℕ → Broker
first_broker moment token_word accessor_word =
    record {
      clock = moment;
      used = put (put empty (id token_word) tt) (id accessor_word) tt;
      tokens = put empty (token_text (id token_word)) (root_token moment (id accessor_word));
      secrets = empty;
      waiting = empty;
      mounts = put empty (codes "secret") secret_mount;
      roles = empty;
      policies = put empty (codes "default") default_policy;
    }
