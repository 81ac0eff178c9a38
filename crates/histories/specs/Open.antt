-- The law of open requests, which need no caller, as statements (Vault's documentation, "/sys/wrapping/lookup" and
-- "/sys/wrapping/unwrap"; that a rewrap may be open is this project's).
use Rattle.std.specs.Prelude.{◌≡◌}
use Rattle.histories.specs.Common.{ℕ, true, Ok, ⊤, codes, Map, Broker, Mount, at_moment, Ask, Words, Command}
use Rattle.histories.specs.Common.{on_wrapping, command_of, is_open, step, Verb, WrappingCommand}

-- ---- what an open ask means

-- a look-up of any wrapping token, or a rewrap or an unwrap of the client token
abbrev pub MeansItsOwn : Ask → WrappingCommand → Type 0
MeansItsOwn a (WrappingCommand.Wrap text) = ⊥
MeansItsOwn a (WrappingCommand.LookUp meant) = ⊤
MeansItsOwn a (WrappingCommand.Rewrap meant) = meant ≡ a.token
MeansItsOwn a (WrappingCommand.Unwrap meant) = meant ≡ a.token

-- An open ask means that and nothing else, whatever mounts there are.
abbrev pub OpenMeansItsOwn : Type 0
OpenMeansItsOwn =
    (mounts : Map Mount) (a : Ask) (command : Command) → is_open a ≡ true → command_of mounts a ≡ Ok command
    → (k : WrappingCommand) × (command ≡ on_wrapping k) × MeansItsOwn a k

-- These are open: a look-up, and an unwrap or a rewrap that means the client token.
pub record TheseAreOpen : Type 0 where
  pub look_up : (a : Ask) → a.verb ≡ Verb.Write → a.path ≡ codes "sys/wrapping/lookup" → is_open a ≡ true
  pub rewrap : (mounts : Map Mount) (a : Ask) → a.verb ≡ Verb.Write → a.path ≡ codes "sys/wrapping/rewrap"
      → command_of mounts a ≡ Ok (on_wrapping (WrappingCommand.Rewrap a.token)) → is_open a ≡ true
  pub unwrap : (mounts : Map Mount) (a : Ask) → a.verb ≡ Verb.Write → a.path ≡ codes "sys/wrapping/unwrap"
      → command_of mounts a ≡ Ok (on_wrapping (WrappingCommand.Unwrap a.token)) → is_open a ≡ true

-- ---- what it leaves

-- c is b, but for the responses that wait and the identifiers that were given out
pub record DiffersInWaiting (b c : Broker) : Type 0 where
  pub clock : c.clock ≡ b.clock
  pub tokens : c.tokens ≡ b.tokens
  pub secrets : c.secrets ≡ b.secrets
  pub mounts : c.mounts ≡ b.mounts
  pub roles : c.roles ≡ b.roles
  pub policies : c.policies ≡ b.policies

-- An open ask spends no use, and changes no token, beside what comes to its end at that moment. Nor does it change
-- anything else but which responses wait, and which identifiers were given out.
abbrev pub OpenChangesNoToken : Type 0
OpenChangesNoToken =
    (b : Broker) (moment : ℕ) (words : Words) (a : Ask) → is_open a ≡ true
    → DiffersInWaiting (at_moment b moment) (step b moment words a).next
