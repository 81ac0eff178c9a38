use Rattle.api_client.specs.Words.{◌<◌, arith, All-from_get_or}
use Rattle.api_client.proofs.asking.are_bytes.Goals as goal

pub returns : goal.returns
returns c = All-from_get_or (λ b. b < 256) c.args.bytes.now 0 (λ i within. omega (arith, c.type_inv.bytes i))
