use Rattle.replay.specs.Lines.{is_line_feed}
use Rattle.replay.proofs.ScriptLemmas.{slice_split-found, slice_split-none}
use Rattle.replay.proofs.script.split_line.Goals as goal

pub returns-in-Some-clause-parts : goal.returns-in-Some-clause-parts
returns-in-Some-clause-parts c =
    slice_split-found is_line_feed c.args.lines.now c.in-Some.end c.in-Some.ensures.place c.in-Some.ensures.within

pub returns-in-None-clause-parts : goal.returns-in-None-clause-parts
returns-in-None-clause-parts c = slice_split-none is_line_feed c.args.lines.now c.in-None.ensures.place
