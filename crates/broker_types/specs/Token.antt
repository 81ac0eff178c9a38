-- Tokens, each with its cubbyhole and its leases (Vault's documentation, "Tokens", "Lease, renew, and revoke",
-- "Cubbyhole secrets engine").
use Rattle.std.specs.Prelude.{ℕ, List, Option}
use Rattle.broker_types.specs.Text.{Text}
use Rattle.broker_types.specs.Map.{Map}

-- a lease: times are moments, and lengths of time are in seconds
pub record Lease : Type 0 where
  pub issued : ℕ
  pub ttl : ℕ
  pub max_ttl : ℕ
  pub ends : ℕ
  pub renewed : Option ℕ
  pub credential : Text

-- a token: its parent, accessor, policies, times, uses, metadata, cubbyhole and leases
pub record Token : Type 0 where
  pub parent : Option Text
  pub accessor : Text
  pub policies : List Text
  pub issued : ℕ
  pub ends : Option ℕ
  pub ttl : ℕ
  pub explicit_max_ttl : ℕ
  -- 0 for a token that is not periodic
  pub period : ℕ
  -- none without a limit
  pub uses_left : Option ℕ
  pub meta : Map Text
  -- the compact text of the object at each path
  pub cubbyhole : Map Text
  -- by lease id
  pub leases : Map Lease

-- tokens by their texts
abbrev pub Tokens : Type 0
Tokens = Map Token
