use Rattle.records.specs.Words.{suc, length, option_map, option_map_or}
use Rattle.replay.specs.Lines.{lines_left}
use Rattle.replay.proofs.ScriptLemmas.{ReadSoFar}
use Rattle.replay.proofs.script.read_script.Given as goal

abbrev pub invariant-loop-rest : goal.invariant-loop-rest
invariant-loop-rest l = ReadSoFar (lines_left (option_map (λ b. b.now) l.initial.rest)) l.events.items
    (lines_left (option_map (λ b. b.now) l.rest))

abbrev pub decreases-loop-rest : goal.decreases-loop-rest
decreases-loop-rest l = option_map_or (λ b. suc (length b.now)) l.rest 0
