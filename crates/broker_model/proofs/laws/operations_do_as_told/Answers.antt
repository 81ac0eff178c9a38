use Rattle.std.proofs.Common.{◌≡◌, length, Option, Some, None, Ok, slice_index}
use Rattle.broker_model.specs.Words.{Broker, id-length, Names, names_of, Done, no_ok, Text, Words, act, Command}
use Rattle.broker_model.specs.Words.{on_cubbyhole, on_token, on_secret, on_policy, on_mount, on_lease, on_issued}
use Rattle.broker_model.specs.Words.{on_wrapping, Does}
use Rattle.broker_model.proofs.AclPolicyEffects as policies
use Rattle.broker_model.proofs.CubbyholeEffects as cubbyholes
use Rattle.broker_model.proofs.IssuedEffects as issued
use Rattle.broker_model.proofs.LeaseEffects as leases
use Rattle.broker_model.proofs.MountEffects as mounts
use Rattle.broker_model.proofs.SecretEffects as secrets
use Rattle.broker_model.proofs.TokenEffects as tokens
use Rattle.broker_model.proofs.WrappingEffects as wrapping
use Rattle.broker_model.proofs.laws.operations_do_as_told.Goals as goal

-- the name of a new lease is as long as an identifier
long : (words : Words) → length (names_of words).lease ≡ 36
unfolding names_of
long words = id-length (slice_index words.0 3)

by_part : (b : Broker) (caller : Option Text) (names : Names) (command : Command) (d : Done) → length names.lease ≡ 36
    → act b caller names command ≡ Ok d → Does b caller names command d
by_part b None names (on_wrapping command) d named e = wrapping.acts b None names command d e
by_part b None names _ d named e = no_ok e
by_part b (Some c) names (on_cubbyhole path command) d named e = cubbyholes.acts b c names path command d e
by_part b (Some c) names (on_token command) d named e = tokens.acts b c names command d e
by_part b (Some c) names (on_secret place command) d named e = secrets.acts b c names place command d e
by_part b (Some c) names (on_policy name command) d named e = policies.acts b c names name command d e
by_part b (Some c) names (on_mount name command) d named e = mounts.acts b c names name command d e
by_part b (Some c) names (on_lease prefix command) d named e = leases.acts b c names prefix command d e
by_part b (Some c) names (on_issued place command) d named e = issued.acts b c names place command d named e
by_part b (Some c) names (on_wrapping command) d named e = wrapping.acts b (Some c) names command d e

pub returns : goal.returns
returns c = λ b caller words command d done. by_part b caller (names_of words) command d (long words) done
