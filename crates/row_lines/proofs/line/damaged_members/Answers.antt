use Rattle.std.proofs.Common.{arith}
use Rattle.hex.proofs.HexLemmas.{decode_of-encode_lower}
use Rattle.row_lines.proofs.line.damaged_members.Goals as goal

pub returns-clause-decodes : goal.returns-clause-decodes
returns-clause-decodes c = decode_of-encode_lower c.args.bytes.now (λ i. let f = c.type_inv.bytes i in omega arith)
