-- The law of versioned secrets over all histories, as statements (Vault's documentation, "KV secrets engine - version
-- 2").
use Rattle.std.specs.Prelude.{◌≡◌}
use Rattle.histories.specs.Common.{ℕ, List, Contains, Some, None, Ok, Broker, Text, get, Key, Version, secret_name}
use Rattle.histories.specs.Common.{on_secret, command_of, VersionsStay, Place, Status, SecretCommand}
use Rattle.histories.specs.History.{AreAsked, Asking, AskedAt, History, clocked}

pub record Secrets (history : History) : Type 0 where
  -- As long as a secret exists, no number is given again, and what a version holds does not change but for good.
  pub stay : (i : ℕ) (a : Asking) (q : Text) (k m : Key) → AskedAt history i a → get a.broker.secrets q ≡ Some k
      → get a.outcome.next.secrets q ≡ Some m → VersionsStay k m
  -- After a 204 that destroyed versions, each of them that is still there holds nothing.
  pub destroyed : (i : ℕ) (a : Asking) (p : Place) (ns : List ℕ) (n : ℕ) (m : Key) (w : Version)
      → AskedAt history i a → command_of (clocked a).mounts a.ask ≡ Ok (on_secret p (SecretCommand.Destroy ns))
      → a.outcome.response.status ≡ Status.NoContent → Contains ns n
      → get a.outcome.next.secrets (secret_name p.mount p.path) ≡ Some m → get m.versions n ≡ Some w
      → w.secret ≡ None

abbrev pub AllSecretsStay : Type 0
AllSecretsStay = (b : Broker) (history : History) → AreAsked b history → Secrets history
