-- The fields of the bodies of each kind of rows, in their order, with what lines call them (this project's export
-- format, over its row format).
use Rattle.std.specs.Prelude.{◌∷◌, ◌==◌, if◌then◌else◌, ℕ, List, [], map, codes, Option, Some, None}
use Rattle.broker_types.specs.Words.{Text}
use Rattle.records.specs.declared.kind.Kind.{Kind}
use Rattle.records.specs.declared.kind.Kind.TheVariants as kind
use Rattle.row_lines.specs.declared.layout.Field as code
use Rattle.row_lines.specs.declared.layout.Form.{Form}
use Rattle.row_lines.specs.declared.layout.Form.TheVariants.{Number, OptionalNumber, Flag, Text as Short, LongText}
use Rattle.row_lines.specs.declared.layout.Form.TheVariants.{Texts, Pairs}

-- a field: what lines call it, and how it is spelled
pub record Field : Type 0 where
  pub called : Text
  pub form : Form

-- the field of this name and form
abbrev pub field : Text → Form → Field
field called form = record { called = called; form = form }

-- fields, as the code has them
abbrev pub fields_in : List code.Field → List Field
fields_in fs = map (λ f. field f.0.now f.1) fs

-- the fields in format 1
abbrev pub first_layout : Kind → List Field
first_layout kind.Clock = field (codes "moment") Number ∷ []
first_layout kind.Used = []
first_layout kind.Token =
    field (codes "accessor") Short
    ∷ field (codes "policies") Texts
    ∷ field (codes "issued") Number
    ∷ field (codes "ttl") Number
    ∷ field (codes "explicit_max_ttl") Number
    ∷ field (codes "period") Number
    ∷ field (codes "uses_left") OptionalNumber
    ∷ field (codes "metadata") Pairs
    ∷ []
first_layout kind.Accessor = field (codes "holder") Number ∷ []
first_layout kind.Cubby = field (codes "object") Short ∷ []
first_layout kind.Lease =
    field (codes "issued") Number
    ∷ field (codes "ttl") Number
    ∷ field (codes "max_ttl") Number
    ∷ field (codes "renewed") OptionalNumber
    ∷ field (codes "credential") Short
    ∷ []
first_layout kind.Credential = []
first_layout kind.KvKey =
    field (codes "current") Number ∷ field (codes "created") Number ∷ field (codes "updated") Number ∷ []
first_layout kind.KvVersion =
    field (codes "created") Number
    ∷ field (codes "deleted") OptionalNumber
    ∷ field (codes "destroyed") Flag
    ∷ field (codes "secret") Short
    ∷ []
first_layout kind.Waiting =
    field (codes "accessor") Short
    ∷ field (codes "created") Number
    ∷ field (codes "ttl") Number
    ∷ field (codes "path") Short
    ∷ field (codes "origin") Short
    ∷ field (codes "reply") LongText
    ∷ []
first_layout kind.Mount =
    field (codes "type") Short ∷ field (codes "cas_required") Flag ∷ field (codes "max_versions") Number ∷ []
first_layout kind.Policy = field (codes "policy") Short ∷ []
first_layout kind.Role = field (codes "ttl") Number ∷ field (codes "max_ttl") Number ∷ []

-- the fields in format 2, which secrets alone have
abbrev pub second_layout : Kind → Option (List Field)
second_layout kind.KvKey =
    Some (
    field (codes "current") Number
    ∷ field (codes "created") Number
    ∷ field (codes "updated") Number
    ∷ field (codes "cas_required") Flag
    ∷ field (codes "max_versions") Number
    ∷ field (codes "custom_metadata") Pairs
    ∷ [])
second_layout _ = None

-- the fields in a format, if the kind has this format
abbrev pub layout : Kind → ℕ → Option (List Field)
layout k n = if n == 1 then Some (first_layout k) else if n == 2 then second_layout k else None
