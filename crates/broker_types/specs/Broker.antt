-- The broker: three maps, with the clock, the used identifiers and the settings (this project's definition).
use Rattle.std.specs.Prelude.{ℕ, ◌+◌, max, Bool, false, nat_lt, codes, ⊤}
use Rattle.std.specs.Option.{option_map_or}
use Rattle.broker_types.specs.Text.{Text}
use Rattle.broker_types.specs.Map.{Map, get, keep}
use Rattle.broker_types.specs.Token.{Tokens}
use Rattle.broker_types.specs.Secret.{Key}
use Rattle.broker_types.specs.Lineage as lineage

-- a response that waits for its wrapping token (Vault's documentation, "Response wrapping")
pub record Waiting : Type 0 where
  pub accessor : Text
  pub created : ℕ
  pub ttl : ℕ
  -- the path of the request that was answered
  pub path : Text
  -- the identifier of the first wrapping token that it waited under
  pub origin : Text
  pub reply : Text

-- what a mount is: versioned secrets, or the engine that issues credentials (Vault's documentation, "Secrets engines";
-- `issued` is this project's)
pub data Engine : Type 0 where
  kv issued : Engine

-- the name of its type
abbrev pub engine_name : Engine → Text
engine_name kv = codes "kv"
engine_name issued = codes "issued"

-- a mount: its engine and its settings
pub record Mount : Type 0 where
  pub engine : Engine
  pub cas_required : Bool
  -- 0 for ten
  pub max_versions : ℕ

-- a role of the engine that issues credentials, with its lengths of time; 0 for none (this project's definition)
pub record Role : Type 0 where
  pub ttl : ℕ
  pub max_ttl : ℕ

-- the broker: its clock, the used identifiers, three maps (tokens, secrets, waiting responses), and its settings
pub record Broker : Type 0 where
  -- the greatest moment of its start and of the requests that reached it
  pub clock : ℕ
  -- the identifiers that were given out
  pub used : Map ⊤
  pub tokens : Tokens
  -- by mount, `/` and path
  pub secrets : Map Key
  -- by wrapping token
  pub waiting : Map Waiting
  -- by name
  pub mounts : Map Mount
  -- by mount, `/` and name
  pub roles : Map Role
  -- by name, as they were handed in
  pub policies : Map Text

-- when a waiting response ends (Vault's documentation, "Response wrapping")
abbrev pub waiting_ends : Waiting → ℕ
waiting_ends w = w.created + w.ttl

-- the broker at a moment: its clock does not go back, and what has ended by then is gone (Vault's documentation,
-- "Lease, renew, and revoke")
abbrev pub at_moment : Broker → ℕ → Broker
at_moment b moment =
    let now = max b.clock moment in
    record b {
      clock = now;
      tokens = lineage.alive_at now b.tokens;
      waiting = keep (λ t. option_map_or (λ w. nat_lt now (waiting_ends w)) (get b.waiting t) false) b.waiting;
    }

-- the broker without the tokens under t; cubbyholes and leases go with their tokens (Vault's documentation, "Tokens",
-- token hierarchies)
abbrev pub revoke : Broker → Text → Broker
revoke b t = record b { tokens = lineage.without_descendants b.tokens t }

-- the broker without t, whose children have no parent then (Vault's documentation, "Tokens", orphan tokens)
abbrev pub revoke_orphan : Broker → Text → Broker
revoke_orphan b t = record b { tokens = lineage.without_parent b.tokens t }
