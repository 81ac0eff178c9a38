-- Families of metrics (Prometheus' documentation, "Data model" and "Metric types").
use Rattle.std.specs.Prelude.{◌∷◌, ℕ, List, [], Option, Some, None}
use Rattle.status.specs.declared.family.Labels.TheVariants.{Absent, One}
use Rattle.status.specs.declared.family.Number.{Number}
use Rattle.status.specs.declared.family.Sample.{Sample}
use Rattle.status.specs.declared.family.Suffix.TheVariants.{Nothing}
use Rattle.status.specs.declared.names.Name.{Name}

-- bytes of a text
abbrev pub Text : Type 0
Text = List ℕ

-- metrics of one name, which also tells what they mean and their type
pub record Family : Type 0 where
  pub name : Name
  pub samples : List Sample

abbrev pub family : Name → List Sample → Family
family name samples = record { name = name; samples = samples }

-- a sample without labels
abbrev pub plain : Number → Sample
plain number = record { suffix = Nothing; labels = Absent; number = number }

-- a sample with one label
abbrev pub labelled : Text → Text → Number → Sample
labelled name value number = record { suffix = Nothing; labels = One (name, value); number = number }

-- the sample of a number, if it is known
abbrev pub known : Option Number → List Sample
known None = []
known (Some number) = plain number ∷ []
