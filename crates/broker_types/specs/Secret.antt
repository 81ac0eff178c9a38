-- Versioned secrets (Vault's documentation, "KV secrets engine - version 2").
use Rattle.std.specs.Prelude.{ℕ, Bool, Option}
use Rattle.std.specs.Ordering.{nat_cmp}
use Rattle.std.specs.FinMap.{FinMap}
use Rattle.broker_types.specs.Text.{Text}
use Rattle.broker_types.specs.Map.{Map}

-- one version; its secret is the compact text of an object, and none if the version is destroyed
pub record Version : Type 0 where
  pub created : ℕ
  pub deleted : Option ℕ
  pub secret : Option Text

-- a key: its versions by number, its times, and its own settings
pub record Key : Type 0 where
  pub created : ℕ
  pub updated : ℕ
  -- 0 for a key without a version
  pub current : ℕ
  pub versions : FinMap nat_cmp Version
  pub cas_required : Bool
  -- 0 for the mount's number
  pub max_versions : ℕ
  pub custom_metadata : Map Text
