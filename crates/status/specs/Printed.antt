-- The families of a server, printed.
use Rattle.std.specs.Prelude.{[], fold}
use Rattle.status.specs.declared.figures.Figures.{Figures}
use Rattle.status.specs.declared.printing.Style.{Style}
use Rattle.status.specs.declared.printing.Style.TheVariants.{Metrics}
use Rattle.status.specs.Counts.{Counts}
use Rattle.status.specs.Families.{families}
use Rattle.status.specs.Printing.{with_family}
use Rattle.status.specs.Samples.{Text}

-- a text, and all families after it
abbrev pub with_all : Style → Text → Counts → Figures → Text
with_all style text c f = fold (fold (with_family style)) text (families c f)

-- what `/metrics` shows
abbrev pub metrics_text : Counts → Figures → Text
metrics_text c f = with_all Metrics [] c f
