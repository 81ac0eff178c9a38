-- What `/` shows: a page of HTML for people.
use Rattle.std.specs.Prelude.{◌++◌, ℕ, Option, Some, None, codes, decimal}
use Rattle.broker_types.specs.Time.{time_text}
use Rattle.status.specs.declared.page.TheConstants.{PAGE_BEGIN}
use Rattle.status.specs.declared.figures.Figures.{Figures}
use Rattle.status.specs.declared.printing.Style.TheVariants.{Page}
use Rattle.status.specs.Counts.{Counts}
use Rattle.status.specs.Health.{state_text, storage_text, uptime}
use Rattle.status.specs.Html.{html}
use Rattle.status.specs.Printed.{with_all}
use Rattle.status.specs.Samples.{Text}

-- the last fault, if there was one
abbrev pub fault_text : Option ℕ → Text
fault_text None = codes "none"
fault_text (Some number) = decimal number

-- the version and the state, after what every page begins with
unfoldable pub with_title : Text → Figures → Text
with_title text f =
    text ++ codes "<h1>Dehluvima " ++ html f.version.now ++ codes ": " ++ state_text f.state ++ codes "</h1>\n"

-- a time (RFC 3339)
unfoldable pub time : ℕ → Text
time n = time_text n

-- since when, and for how long
unfoldable pub with_start : Text → Figures → Text
with_start text f =
    text ++ codes "<p>Started " ++ time f.started ++ codes ", " ++ decimal (uptime f) ++ codes " seconds ago."

-- where the rows are, and the last fault
unfoldable pub with_store : Text → Figures → Text
with_store text f =
    text ++ codes " Store: " ++ storage_text f.storage ++ codes ". Last fault: " ++ fault_text f.last_fault
    ++ codes ".</p>\n"

-- the page
abbrev pub page_text : Counts → Figures → Text
page_text c f =
    with_all Page (with_store (with_start (with_title PAGE_BEGIN.now f) f) f ++ codes "<dl>\n") c f
    ++ codes "</dl>\n</html>\n"
