use Rattle.std.proofs.Common.{◌≡◌, length}
use denote.Text.{Utf8}
use denote.Shadow.{shadow}
use Rattle.http_layer.specs.Words.{without_spaces}
use Rattle.http_layer.proofs.asking.without_spaces.Given as goal

abbrev pub decreases-loop-text : goal.decreases-loop-text
decreases-loop-text l = length l.text

abbrev pub invariant-loop-text : goal.invariant-loop-text
invariant-loop-text l = shadow (Utf8 l.text) × (without_spaces l.text ≡ without_spaces l.initial.text)
