-- One request of the broker of three maps (this project's definition).
use Rattle.records.specs.Words.{ℕ, Broker, Ask, Words, names_of}
use Rattle.broker_model.specs.Request.{Request}
use Rattle.broker_model.specs.Command.{Command, on_cubbyhole, on_token, on_secret, on_policy, command_of, on_mount}
use Rattle.broker_model.specs.Command.{on_lease, on_issued, on_wrapping}
use Rattle.broker_model.specs.parts.Cubbyholes.{cubbyhole_traits}
use Rattle.broker_model.specs.parts.AclPolicies.{policy_traits}
use Rattle.broker_model.specs.parts.Issued.{issued_traits}
use Rattle.broker_model.specs.parts.Leases.{lease_traits}
use Rattle.broker_model.specs.parts.Mounts.{mount_traits}
use Rattle.broker_model.specs.parts.Secrets.{secret_traits}
use Rattle.broker_model.specs.parts.TokenCommands.{token_traits}
use Rattle.broker_model.specs.parts.WrappingCommands.{opens, wrapping_traits}
use Rattle.broker_model.specs.Act.{act}
use Rattle.broker_model.specs.Order.{Outcome, ordered}
use Rattle.broker_model.specs.Permission.{permits}
use Rattle.broker_model.specs.Traits.{Traits}

-- what each command is, part by part
abbrev pub traits : Command → Traits
traits (on_cubbyhole path command) = cubbyhole_traits command
traits (on_token command) = token_traits command
traits (on_secret place command) = secret_traits command
traits (on_policy name command) = policy_traits command
traits (on_mount name command) = mount_traits command
traits (on_lease prefix command) = lease_traits command
traits (on_issued place command) = issued_traits command
traits (on_wrapping command) = wrapping_traits command

-- what an ask brings to the order of one request
abbrev pub request_of : Ask → Request Command
request_of a =
    record {
      verb = a.verb;
      path = a.path;
      token = a.token;
      wrap_ttl = a.wrap_ttl;
      command = λ b. command_of b.mounts a;
      is_open = opens a.verb a.path a.token a.body;
    }

-- step b moment words ask: what the broker b answers to the ask, and what it leaves
unfoldable pub step : Broker → ℕ → Words → Ask → Outcome
step b moment words a = ordered permits traits act b moment (request_of a) (names_of words)

-- the ask without its wrap TTL: what `step` answers to it is what a wrapped reply would have been
abbrev pub unwrapped_ask : Ask → Ask
unwrapped_ask a = record a { wrap_ttl = 0 }
