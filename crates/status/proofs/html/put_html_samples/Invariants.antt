use Rattle.std.proofs.Common.{◌≡◌, fold, take}
use Rattle.status.specs.Html.{with_html_sample}
use Rattle.status.proofs.html.put_html_samples.Given as goal

abbrev pub invariant-loop-sample : goal.invariant-loop-sample
invariant-loop-sample l = l.text.items ≡ fold with_html_sample l.fn.text.items (take l.sample-index l.samples)
