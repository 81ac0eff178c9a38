-- Which records of the broker rows can keep: numbers that no printer must test again, and texts short enough for the
-- length in their row (this project's row format).
use Rattle.std.specs.Prelude.{◌≡◌, ◌≢◌, ◌<◌, ◌≤◌, ◌^◌, [], false, Some}
use Rattle.broker_types.specs.Words.{longest_ttl, greatest_version, longest_duration, IsMoment, IsEnd, IsShortText}
use Rattle.broker_types.specs.Words.{Version, Lease, Mount, Role, Waiting}
use Rattle.records.specs.RowReaders.{IsWide, IsSomeIn}
use Rattle.records.specs.Fields.{IsLongText}
use Rattle.records.specs.KeyEntry.{KeyEntry}
use Rattle.records.specs.TokenEntry.{TokenEntry, IsPolicies, IsMeta}

-- a token that a row can hold; no parent has an empty text
pub record IsTokenInRange (x : TokenEntry) : Type 0 where
  pub parent : x.parent ≢ Some []
  pub accessor : IsShortText x.accessor
  pub policies : IsPolicies x.policies
  pub issued : IsMoment x.issued
  pub ends : IsSomeIn IsEnd x.ends
  pub ttl : x.ttl ≤ longest_ttl
  pub explicit_max_ttl : x.explicit_max_ttl ≤ longest_duration
  pub period : x.period ≤ longest_ttl
  pub uses_left : IsSomeIn IsWide x.uses_left
  pub meta : IsMeta x.meta

-- a lease that a row can hold
pub record IsLeaseInRange (l : Lease) : Type 0 where
  pub ends : IsEnd l.ends
  pub issued : IsMoment l.issued
  pub ttl : l.ttl ≤ longest_ttl
  pub max_ttl : l.max_ttl ≤ longest_ttl
  pub renewed : IsSomeIn IsMoment l.renewed
  pub credential : IsShortText l.credential

-- a key that a row can hold: in format 1, one that has no settings of its own
pub record IsKeyInRange (k : KeyEntry) : Type 0 where
  pub current : k.current ≤ greatest_version
  pub created : IsMoment k.created
  pub updated : IsMoment k.updated
  pub max_versions : IsWide k.max_versions
  pub custom_metadata : IsMeta k.custom_metadata

-- a key that a row of format 1 can hold: it has no settings
pub record IsOldKey (k : KeyEntry) : Type 0 where
  pub in_range : IsKeyInRange k
  pub cas_required : k.cas_required ≡ false
  pub max_versions : k.max_versions ≡ 0
  pub custom_metadata : k.custom_metadata ≡ []

-- a version that a row can hold
pub record IsVersionInRange (v : Version) : Type 0 where
  pub created : IsMoment v.created
  pub deleted : IsSomeIn IsMoment v.deleted
  pub secret : IsSomeIn IsShortText v.secret

-- a waiting response that a row can hold
pub record IsWaitingInRange (w : Waiting) : Type 0 where
  pub accessor : IsShortText w.accessor
  pub created : IsMoment w.created
  pub ttl : w.ttl ≤ longest_ttl
  pub path : IsShortText w.path
  pub origin : IsShortText w.origin
  pub reply : IsLongText w.reply

-- a mount that a row can hold
abbrev pub IsMountInRange : Mount → Type 0
IsMountInRange m = m.max_versions < 2 ^ 64

-- a role that a row can hold
pub record IsRoleInRange (r : Role) : Type 0 where
  pub ttl : r.ttl ≤ longest_duration
  pub max_ttl : r.max_ttl ≤ longest_duration
