-- What is told of a secret in the range of its rows: its times are moments (this project's row format). And which
-- settings a secret of a sound broker can be given.
use Rattle.std.specs.Prelude.{◌≤◌, List, All, length}
use Rattle.records.specs.Words.{most_custom_metadata, IsCustomPair, IsMoment, IsSomeIn, IsWide}
use Rattle.kv2.specs.Metadata.{Metadata}
use Rattle.kv2.specs.Versions.{Settings}
use Rattle.kv2.specs.declared.secret_metadata.VersionMetadata.{VersionMetadata}

-- what is told of a version
pub record IsToldInRange (v : VersionMetadata) : Type 0 where
  pub created : IsMoment v.created
  pub deleted : IsSomeIn IsMoment v.deleted

-- what is told of versions
abbrev pub AreToldInRange : List VersionMetadata → Type 0
AreToldInRange vs = All IsToldInRange vs

-- what is told of a secret
pub record IsMetadataInRange (m : Metadata) : Type 0 where
  pub created : IsMoment m.created
  pub updated : IsMoment m.updated
  pub versions : AreToldInRange m.versions

-- settings in their limits: a number of 64 bits, and not too many names and values of custom metadata, none too long
pub record AreWithinLimits (given : Settings) : Type 0 where
  pub max_versions : IsSomeIn IsWide given.max_versions
  pub few_metadata : IsSomeIn (λ es. length es ≤ most_custom_metadata) given.custom_metadata
  pub metadata : IsSomeIn (λ es. All (λ e. IsCustomPair e.0 e.1) es) given.custom_metadata
