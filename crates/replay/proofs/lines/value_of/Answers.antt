use Rattle.std.proofs.Common.{if◌then◌else◌, ◌∙◌, ap, sym, None, Bool, false, IsTrue}
use Rattle.records.specs.Words.{is_utf8-from_IsUtf8}
use Rattle.serde_json.specs.Read.{read}
use Rattle.replay.proofs.LineLemmas.{refused_line}
use Rattle.replay.proofs.lines.value_of.Goals as goal

pub returns-in-Ok : goal.returns-in-Ok
returns-in-Ok c =
    let line = c.args.line.now in
    sym (ap (λ (b : Bool). if b then read line else None) (is_utf8-from_IsUtf8 line c.in-Ok.ensures.ok.0)
    ∙ c.in-Ok.ensures.ok.1)

pub returns-else-is_memory : goal.returns-else-is_memory
returns-else-is_memory c = refused_line c.args.line.now
    (c.in-Err.ensures.err (λ m. absurd (no_memory (c.if-is_memory.ensures.1 m))))
  where
    no_memory : IsTrue false → ⊥
    no_memory e = cc
