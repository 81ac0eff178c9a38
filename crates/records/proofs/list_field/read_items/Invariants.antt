use Rattle.records.proofs.ListReads.{Reading}
use Rattle.records.proofs.list_field.read_items.Given as goal

-- some items are read, the others are missing
abbrev pub invariant-loop-missing : goal.invariant-loop-missing
invariant-loop-missing g l = Reading g.F.Form.in_range g.F.Spell.spell l.fn.bytes l.list.items l.left l.count l.missing

abbrev pub decreases-loop-missing : goal.decreases-loop-missing
decreases-loop-missing g l = l.missing
