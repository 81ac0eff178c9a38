use Rattle.std.proofs.Common.{sym, false, IsTrue}
use Rattle.api_client.proofs.json_values.parsed.Goals as goal

pub returns-else-is_memory : goal.returns-else-is_memory
returns-else-is_memory c = sym (c.in-Err.ensures.err (λ m. absurd (no_memory (c.if-is_memory.ensures.1 m))))
  where
    no_memory : IsTrue false → ⊥
    no_memory e = cc
