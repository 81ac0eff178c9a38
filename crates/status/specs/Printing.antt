-- Families in the text format of Prometheus, version 0.0.4 (Prometheus' documentation, "Exposition formats"). Each
-- definition says what stands after a text, once more is added to it.
use Rattle.std.specs.Prelude.{◌==◌, ◌∷◌, ◌++◌, if◌then◌else◌, ℕ, [], length, codes, fold, flat_map}
use Rattle.status.specs.declared.family.Labels.{Labels}
use Rattle.status.specs.declared.family.Labels.TheVariants.{Absent, One, Two}
use Rattle.status.specs.declared.family.Metric.{Metric}
use Rattle.status.specs.declared.family.Metric.TheVariants as metric
use Rattle.status.specs.declared.family.Sample.{Sample}
use Rattle.status.specs.declared.family.Suffix.{Suffix}
use Rattle.status.specs.declared.family.Suffix.TheVariants.{Nothing, Bucket, Sum, Count}
use Rattle.status.specs.declared.printing.Style.{Style}
use Rattle.status.specs.declared.printing.Style.TheVariants.{Metrics, Page}
use Rattle.status.specs.declared.names.Name.{Name}
use Rattle.status.specs.Html.{with_html_family}
use Rattle.status.specs.Names.{help_text, metric_of, name_text}
use Rattle.status.specs.Numbers.{with_number}
use Rattle.status.specs.Samples.{Family, Text}

-- a byte of the value of a label: a backslash before `\` and `"`, and `\n` for a line feed
abbrev pub escaped_byte : ℕ → Text
escaped_byte b =
    if b == 92 then codes "\\\\" else if b == 34 then codes "\\\"" else if b == 10 then codes "\\n" else b ∷ []

-- the value of a label
abbrev pub escaped : Text → Text
escaped value = flat_map escaped_byte value

-- a label: `name="value"`
unfoldable pub with_label : Text → Text × Text → Text
with_label text l = text ++ l.0 ++ codes "=\"" ++ escaped l.1 ++ codes "\""

-- labels in braces, with a comma between two
unfoldable pub with_labels : Text → Labels → Text
with_labels text Absent = text
with_labels text (One l) = with_label (text ++ codes "{") l ++ codes "}"
with_labels text (Two l m) = with_label (with_label (text ++ codes "{") l ++ codes ",") m ++ codes "}"

-- what follows the name of a family
abbrev pub suffix_text : Suffix → Text
suffix_text Nothing = []
suffix_text Bucket = codes "_bucket"
suffix_text Sum = codes "_sum"
suffix_text Count = codes "_count"

-- a line: the name, the labels and the number
unfoldable pub with_sample : Name → Text → Sample → Text
with_sample name text s =
    with_number (with_labels (text ++ name_text name ++ suffix_text s.suffix) s.labels ++ codes " ") s.number
    ++ codes "\n"

-- the type of a metric, and the end of its line
abbrev pub metric_line : Metric → Text
metric_line metric.Counter = codes " counter\n"
metric_line metric.Gauge = codes " gauge\n"
metric_line metric.Histogram = codes " histogram\n"

-- what a family means, and its type
unfoldable pub with_head : Text → Name → Text
with_head text name =
    text ++ codes "# HELP " ++ name_text name ++ codes " " ++ help_text name ++ codes "\n# TYPE " ++ name_text name
    ++ metric_line (metric_of name)

-- a family, if it has a sample
unfoldable pub with_metric_family : Text → Family → Text
with_metric_family text f =
    if length f.samples == 0 then text
    else fold (with_sample f.name) (with_head text f.name) f.samples

-- a family, as Prometheus reads it or as people do
unfoldable pub with_family : Style → Text → Family → Text
with_family Metrics text f = with_metric_family text f
with_family Page text f = with_html_family text f
