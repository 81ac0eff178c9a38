-- Which tokens end by themselves, as the code has them (this project's definition).
use Rattle.token_tree.specs.declared.start.Start.{Start}
use Rattle.token_tree.specs.declared.start.Start.TheVariants.{Named, DueBy}
use Rattle.token_tree.specs.Ended.{is_named, has_come}
use Rattle.token_tree.specs.Ended as ended

-- the definition's start
abbrev pub starts : Start → ended.Start
starts (Named t) = is_named t.now
starts (DueBy now) = has_come now
