-- Families for people: items of a description list (HTML, section 4.4.9). Each definition says what stands after a
-- text, once more is added to it.
use Rattle.std.specs.Prelude.{◌==◌, ◌∷◌, ◌++◌, if◌then◌else◌, ℕ, [], length, codes, fold, flat_map}
use Rattle.status.specs.declared.family.Labels.{Labels}
use Rattle.status.specs.declared.family.Labels.TheVariants.{Absent, One, Two}
use Rattle.status.specs.declared.family.Sample.{Sample}
use Rattle.status.specs.declared.family.Suffix.{Suffix}
use Rattle.status.specs.declared.family.Suffix.TheVariants.{Nothing, Bucket, Sum, Count}
use Rattle.status.specs.Names.{help_text}
use Rattle.status.specs.Numbers.{with_number}
use Rattle.status.specs.Samples.{Family, Text}

-- a byte of a text, as HTML has it (HTML, section 13.1.4)
abbrev pub html_byte : ℕ → Text
html_byte b =
    if b == 38 then codes "&amp;" else if b == 60 then codes "&lt;" else if b == 62 then codes "&gt;"
    else if b == 34 then codes "&quot;" else b ∷ []

-- a text
abbrev pub html : Text → Text
html text = flat_map html_byte text

-- the value of a label, and a space
unfoldable pub with_value : Text → Text × Text → Text
with_value text l = text ++ html l.1 ++ codes " "

-- the values of labels
unfoldable pub with_values : Text → Labels → Text
with_values text Absent = text
with_values text (One l) = with_value text l
with_values text (Two l m) = with_value (with_value text l) m

-- what the number of a histogram is
abbrev pub suffix_word : Suffix → Text
suffix_word Nothing = []
suffix_word Bucket = []
suffix_word Sum = codes "in all "
suffix_word Count = codes "requests "

-- the values of the labels, and the number
unfoldable pub with_shown : Text → Sample → Text
with_shown text s =
    with_number (with_values (text ++ codes "<dd>") s.labels ++ suffix_word s.suffix ++ codes "<b>") s.number
    ++ codes "</b></dd>"

-- a sample with this suffix, if it is no bucket of a histogram
abbrev pub with_suffixed : Suffix → Text → Sample → Text
with_suffixed Bucket text s = text
with_suffixed Nothing text s = with_shown text s
with_suffixed Sum text s = with_shown text s
with_suffixed Count text s = with_shown text s

-- a sample, if it is no bucket of a histogram
unfoldable pub with_html_sample : Text → Sample → Text
with_html_sample text s = with_suffixed s.suffix text s

-- what a family means, and its samples, if it has any
unfoldable pub with_html_family : Text → Family → Text
with_html_family text f =
    if length f.samples == 0 then text
    else fold with_html_sample (text ++ codes "<div><dt>" ++ html (help_text f.name) ++ codes "</dt>") f.samples
    ++ codes "</div>\n"
