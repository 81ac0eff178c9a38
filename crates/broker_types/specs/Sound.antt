-- Sound brokers: what the start makes true and every request keeps true (this project's definition).
use Rattle.std.specs.Prelude.{◌≡◌, ◌≢◌, ◌<◌, ◌≤◌, ◌^◌, ◌+◌, ◌++◌, ◌&&◌, ℕ, List, [], ◌∷◌, Bool, true, length, codes}
use Rattle.std.specs.Prelude.{IsUtf8, Option, Some, All}
use Rattle.std.specs.Ordering.{is_lt}
use Rattle.std.specs.FinMap as fin
use Rattle.broker_types.specs.Text.{Text, text_cmp}
use Rattle.broker_types.specs.Map.{Map, get, len}
use Rattle.broker_types.specs.Identifier.{id}
use Rattle.broker_types.specs.TokenText.{token_text}
use Rattle.broker_types.specs.Moment.{greatest_moment}
use Rattle.broker_types.specs.Duration.{longest_duration}
use Rattle.broker_types.specs.Limits.{longest_ttl, greatest_version, most_custom_metadata, longest_custom_name}
use Rattle.broker_types.specs.Limits.{longest_custom_value}
use Rattle.broker_types.specs.Name.{is_name, is_mount_name}
use Rattle.broker_types.specs.Path.{is_path}
use Rattle.broker_types.specs.Token.{Token, Tokens, Lease}
use Rattle.broker_types.specs.Secret.{Key, Version}
use Rattle.broker_types.specs.Lineage.{ParentsExist, ChainsEnd}
use Rattle.broker_types.specs.Broker.{Broker, Waiting, Mount, Role}
use Rattle.broker_types.specs.IdentifierPlaces.{IsUsed, OnePlaceEach, AllUsed}

-- which texts are compact JSON objects, and which are policies: what the crates that read JSON say
pub record Forms : Type 0 where
  pub is_object : Text → Bool
  pub is_policy : Text → Bool

-- ---- texts

-- the identifier of a word
abbrev pub IsIdentifier : Text → Type 0
IsIdentifier i = (word : ℕ) × (word < 2 ^ 128) × (i ≡ id word)

-- `hvs.` and an identifier
abbrev pub IsTokenText : Text → Type 0
IsTokenText t = (i : Text) × IsIdentifier i × (t ≡ token_text i)

-- UTF-8, of a length that four bytes hold
pub record IsShortText (t : Text) : Type 0 where
  pub utf8 : IsUtf8 t
  pub short : length t < 2 ^ 32

-- the path of a request, or a part of one
pub record IsPathText (p : Text) : Type 0 where
  pub good : is_path p ≡ true
  pub utf8 : IsUtf8 p

-- the compact text of an object
pub record IsObjectText (forms : Forms) (t : Text) : Type 0 where
  pub object : forms.is_object t ≡ true
  pub short : IsShortText t

-- ascending by bytes, each once
abbrev pub is_ascending : List Text → Bool
is_ascending [] = true
is_ascending (x ∷ []) = true
is_ascending (x ∷ y ∷ zs) = is_lt (text_cmp x y) && is_ascending (y ∷ zs)

-- ---- times

-- an accepted moment
abbrev pub IsMoment : ℕ → Type 0
IsMoment n = n ≤ greatest_moment

-- an end is set no further ahead than 32 days
abbrev pub IsEnd : ℕ → Type 0
IsEnd n = n ≤ greatest_moment + longest_ttl

-- ---- entries

-- the mount, `/creds/`, the role, `/` and an identifier
pub record IsLeaseId (lease_id : Text) : Type 0 where
  pub mount : Text
  pub role : Text
  pub identifier : Text
  pub mount_name : is_mount_name mount ≡ true
  pub role_name : is_name role ≡ true
  pub is_identifier : IsIdentifier identifier
  pub parts : lease_id ≡ mount ++ codes "/creds/" ++ role ++ codes "/" ++ identifier

-- a lease under its id: all its numbers are within the limits
pub record IsSoundLease (lease_id : Text) (l : Lease) : Type 0 where
  pub name : IsLeaseId lease_id
  pub issued : IsMoment l.issued
  pub ttl : l.ttl ≤ l.max_ttl
  pub max_ttl : l.max_ttl ≤ longest_ttl
  pub ends : IsEnd l.ends
  pub renewed : (m : ℕ) → l.renewed ≡ Some m → IsMoment m
  pub credential : IsIdentifier l.credential

-- a token under its text: all its names, texts and numbers are within the limits
pub record IsSoundToken (forms : Forms) (t : Text) (x : Token) : Type 0 where
  pub name : IsTokenText t
  pub accessor : IsIdentifier x.accessor
  pub policy_names : All (λ p. is_name p ≡ true) x.policies
  pub policies_ascend : is_ascending x.policies ≡ true
  pub few_policies : length x.policies < 2 ^ 32
  pub issued : IsMoment x.issued
  pub ends : (m : ℕ) → x.ends ≡ Some m → IsEnd m
  pub ttl : x.ttl ≤ longest_ttl
  pub explicit_max_ttl : x.explicit_max_ttl ≤ longest_duration
  pub period : x.period ≤ longest_ttl
  pub uses_left : (n : ℕ) → x.uses_left ≡ Some n → n < 2 ^ 64
  pub few_meta : len x.meta < 2 ^ 32
  pub meta : (name value : Text) → get x.meta name ≡ Some value → IsShortText name × IsShortText value
  pub cubbyhole : (path object : Text)
      → get x.cubbyhole path ≡ Some object → IsPathText path × IsObjectText forms object
  pub leases : (lease_id : Text) (l : Lease) → get x.leases lease_id ≡ Some l → IsSoundLease lease_id l

-- version n of the key k
pub record IsSoundVersion (forms : Forms) (k : Key) (n : ℕ) (v : Version) : Type 0 where
  pub first : 0 < n
  pub last : n ≤ k.current
  pub created : IsMoment v.created
  pub deleted : (m : ℕ) → v.deleted ≡ Some m → IsMoment m
  pub secret : (object : Text) → v.secret ≡ Some object → IsObjectText forms object

-- the mount, `/` and the path
pub record IsSecretName (q : Text) : Type 0 where
  pub mount : Text
  pub path : Text
  pub mount_name : is_mount_name mount ≡ true
  pub is_path_text : IsPathText path
  pub parts : q ≡ mount ++ codes "/" ++ path

-- a name and a value of custom metadata: as short as this project allows, the name not empty
pub record IsCustomPair (name value : Text) : Type 0 where
  pub name_utf8 : IsUtf8 name
  pub value_utf8 : IsUtf8 value
  pub name_given : 0 < length name
  pub name_short : length name ≤ longest_custom_name
  pub value_short : length value ≤ longest_custom_value

-- a key under its name
pub record IsSoundKey (forms : Forms) (q : Text) (k : Key) : Type 0 where
  pub name : IsSecretName q
  pub created : IsMoment k.created
  pub updated : IsMoment k.updated
  pub current : k.current ≤ greatest_version
  pub versions : (n : ℕ) (v : Version) → fin.get k.versions n ≡ Some v → IsSoundVersion forms k n v
  pub max_versions : k.max_versions < 2 ^ 64
  pub few_metadata : len k.custom_metadata ≤ most_custom_metadata
  pub metadata : (name value : Text) → get k.custom_metadata name ≡ Some value → IsCustomPair name value

-- a response that waits under a wrapping token
pub record IsSoundWaiting (t : Text) (w : Waiting) : Type 0 where
  pub name : IsTokenText t
  pub accessor : IsIdentifier w.accessor
  pub created : IsMoment w.created
  pub waits : 0 < w.ttl
  pub ttl : w.ttl ≤ longest_ttl
  pub path : IsPathText w.path
  pub origin : IsIdentifier w.origin
  pub reply : IsUtf8 w.reply
  pub short : length w.reply < 2 ^ 64

-- a mount under its name
pub record IsSoundMount (name : Text) (m : Mount) : Type 0 where
  pub mount_name : is_mount_name name ≡ true
  pub max_versions : m.max_versions < 2 ^ 64

-- a role under its mount, `/` and its name
pub record IsSoundRole (q : Text) (r : Role) : Type 0 where
  pub mount : Text
  pub role : Text
  pub mount_name : is_mount_name mount ≡ true
  pub role_name : is_name role ≡ true
  pub parts : q ≡ mount ++ codes "/" ++ role
  pub ttl : r.ttl ≤ longest_duration
  pub max_ttl : r.max_ttl ≤ longest_duration

-- a policy under its name; the policy `root` is never kept
pub record IsSoundPolicy (forms : Forms) (name text : Text) : Type 0 where
  pub policy_name : is_name name ≡ true
  pub not_root : name ≢ codes "root"
  pub policy : forms.is_policy text ≡ true
  pub short : IsShortText text

-- ---- the parts of a broker

-- each token is sound, its parent is a token, and every chain of parents ends
pub record SoundTokens (forms : Forms) (ts : Tokens) : Type 0 where
  pub each : (t : Text) (x : Token) → get ts t ≡ Some x → IsSoundToken forms t x
  pub parents_exist : ParentsExist ts
  pub chains_end : ChainsEnd ts

-- each secret is sound
abbrev pub SoundSecrets : Forms → Map Key → Type 0
SoundSecrets forms keys = (q : Text) (k : Key) → get keys q ≡ Some k → IsSoundKey forms q k

-- each response that waits is sound, and no two have one origin
pub record SoundWaiting (ws : Map Waiting) : Type 0 where
  pub each : (t : Text) (w : Waiting) → get ws t ≡ Some w → IsSoundWaiting t w
  pub one_origin : (t u : Text) (v w : Waiting) → get ws t ≡ Some v → get ws u ≡ Some w → v.origin ≡ w.origin → t ≡ u

-- each mount is sound
abbrev pub SoundMounts : Map Mount → Type 0
SoundMounts ms = (name : Text) (m : Mount) → get ms name ≡ Some m → IsSoundMount name m

-- each role is sound
abbrev pub SoundRoles : Map Role → Type 0
SoundRoles rs = (q : Text) (r : Role) → get rs q ≡ Some r → IsSoundRole q r

-- each policy is sound
abbrev pub SoundPolicies : Forms → Map Text → Type 0
SoundPolicies forms ps = (name text : Text) → get ps name ≡ Some text → IsSoundPolicy forms name text

-- Each identifier is in one place, and all identifiers in places, and the origins of what waits, were given out.
pub record SoundIdentifiers (b : Broker) : Type 0 where
  pub used : (i : Text) → IsUsed b i → IsIdentifier i
  pub one_place : OnePlaceEach b
  pub all_used : AllUsed b
  pub origins_used : (t : Text) (w : Waiting) → get b.waiting t ≡ Some w → IsUsed b w.origin

-- no token has spent its last use, but for who, who may have
abbrev pub Unspent : Option Text → Tokens → Type 0
Unspent who ts = (t : Text) (x : Token) → get ts t ≡ Some x → x.uses_left ≡ Some 0 → who ≡ Some t

-- ---- the broker

-- The broker is sound, but for the caller who, which may have spent its last use. Between two requests no token has,
-- and `who` is None.
pub record Sound (forms : Forms) (who : Option Text) (b : Broker) : Type 0 where
  pub clock : IsMoment b.clock
  pub tokens : SoundTokens forms b.tokens
  pub secrets : SoundSecrets forms b.secrets
  pub waiting : SoundWaiting b.waiting
  pub mounts : SoundMounts b.mounts
  pub roles : SoundRoles b.roles
  pub policies : SoundPolicies forms b.policies
  pub identifiers : SoundIdentifiers b
  pub unspent : Unspent who b.tokens
