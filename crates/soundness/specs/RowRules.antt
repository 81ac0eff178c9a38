-- What the row at a kind and key has to be, and which other rows have to be there, so that the rows are those of a
-- sound broker (this project's definition).
use Rattle.std.specs.Prelude.{◌≡◌, ◌≢◌, ◌<◌, ◌≤◌, ◌++◌, ◌∷◌, [], ℕ, length, All, true, Some, None, ⊤}
use Rattle.broker_model.specs.Words.{Text, most_custom_metadata, is_name, Version, Lease, Waiting, IsMoment}
use Rattle.broker_model.specs.Words.{IsIdentifier, IsLeaseId, IsSecretName, IsPathText, IsObjectText, IsCustomPair}
use Rattle.broker_model.specs.Words.{IsSoundMount, IsSoundPolicy, IsSoundRole, forms, Holder, Kind, Row, KeyEntry}
use Rattle.broker_model.specs.Words.{TokenEntry, IsTokenInRange, IsLeaseInRange, IsKeyInRange, IsVersionInRange}
use Rattle.broker_model.specs.Words.{IsWaitingInRange, IsSomeIn, clock_row, used_row, entry_row, accessor_row}
use Rattle.broker_model.specs.Words.{cubby_row, lease_row, credential_row, key_entry_row, version_row, waiting_row}
use Rattle.broker_model.specs.Words.{mount_row, policy_row, role_row, version_key, slash, Table}
use Rattle.records.specs.declared.holder.Holder.TheVariants as holder
use Rattle.records.specs.declared.kind.Kind.TheVariants as kind

-- the row is that of a record of which P holds
abbrev pub IsOf : {X : Type 0} → (X → Row) → (X → Type 0) → Row → Type 0
IsOf {X} row_of P row = (x : X) × P x × (row ≡ row_of x)

-- ---- the clock

-- the clock is kept under the empty key alone
abbrev pub IsClock : Text → ℕ → Type 0
IsClock q moment = (q ≡ []) × IsMoment moment

-- ---- tokens, and what goes with them

-- a token, whose parent and whose accessor have their rows
pub record IsTokenAt (rows : Table) (t : Text) (x : TokenEntry) : Type 0 where
  pub in_range : IsTokenInRange x
  pub policy_names : All (λ p. is_name p ≡ true) x.policies
  pub unspent : x.uses_left ≢ Some 0
  pub parent : (p : Text) → x.parent ≡ Some p → rows kind.Token p ≢ None
  pub accessor : rows kind.Accessor x.accessor ≡ Some (accessor_row t holder.Token)

-- a text, and whether it is a token or a wrapping token
abbrev pub Named : Type 0
Named = Text × Holder

-- what the accessor names has this accessor
abbrev pub IsNamedBy : Table → Text → Named → Type 0
IsNamedBy rows a (t, holder.Token) =
    (x : TokenEntry) × IsTokenInRange x × (rows kind.Token t ≡ Some (entry_row x)) × (x.accessor ≡ a)
IsNamedBy rows a (t, holder.WrappingToken) =
    (w : Waiting) × IsWaitingInRange w × (rows kind.Waiting t ≡ Some (waiting_row w)) × (w.accessor ≡ a)

-- a token, and an object of its cubbyhole
abbrev pub Owned : Type 0
Owned = Text × Text

-- the object is at a path of a token
pub record IsObjectAt (rows : Table) (q : Text) (e : Owned) : Type 0 where
  pub path : Text
  pub key : q ≡ e.0 ++ slash ∷ path
  pub owner : rows kind.Token e.0 ≢ None
  pub is_path_text : IsPathText path
  pub object : IsObjectText forms e.1

-- a token, and a lease
abbrev pub Held : Type 0
Held = Text × Lease

-- a lease of a token, whose credential has its row
pub record IsLeaseAt (rows : Table) (q : Text) (h : Held) : Type 0 where
  pub in_range : IsLeaseInRange h.1
  pub name : IsLeaseId q
  pub ttl : h.1.ttl ≤ h.1.max_ttl
  pub owner : rows kind.Token h.0 ≢ None
  pub credential : rows kind.Credential h.1.credential ≡ Some (credential_row q)

-- the credential is that of the lease with the id
abbrev pub IsCredentialOf : Table → Text → Text → Type 0
IsCredentialOf rows c lease_id =
    (h : Held) × IsLeaseInRange h.1 × (rows kind.Lease lease_id ≡ Some (lease_row h.0 h.1)) × (h.1.credential ≡ c)

-- ---- secrets

-- a key without its versions, under its name
pub record IsKeyAt (q : Text) (k : KeyEntry) : Type 0 where
  pub in_range : IsKeyInRange k
  pub name : IsSecretName q
  pub few_metadata : length k.custom_metadata ≤ most_custom_metadata
  pub metadata : All (λ e. IsCustomPair e.0 e.1) k.custom_metadata

-- a version of a key, whose current version is not before it
pub record IsVersionAt (rows : Table) (q : Text) (v : Version) : Type 0 where
  pub in_range : IsVersionInRange v
  pub object : IsSomeIn (IsObjectText forms) v.secret
  pub name : Text
  pub number : ℕ
  pub key : KeyEntry
  pub key_in_range : IsKeyInRange key
  pub key_row : rows kind.KvKey name ≡ Some (key_entry_row key)
  pub is_key : q ≡ version_key name number
  pub first : 0 < number
  pub last : number ≤ key.current

-- ---- waiting responses

-- a response that waits, whose wrapping token's accessor has its row
pub record IsWaitingAt (rows : Table) (t : Text) (w : Waiting) : Type 0 where
  pub in_range : IsWaitingInRange w
  pub waits : 0 < w.ttl
  pub path : IsPathText w.path
  pub accessor : rows kind.Accessor w.accessor ≡ Some (accessor_row t holder.WrappingToken)

-- ---- each kind of rows

-- the row at a kind and key is as it has to be
abbrev pub IsSoundAt : Table → Kind → Text → Row → Type 0
IsSoundAt rows kind.Clock q row = IsOf clock_row (IsClock q) row
IsSoundAt rows kind.Used q row = IsOf {X = ⊤} (λ _. used_row) (λ _. IsIdentifier q) row
IsSoundAt rows kind.Token q row = IsOf entry_row (IsTokenAt rows q) row
IsSoundAt rows kind.Accessor q row = IsOf (λ (n : Named). accessor_row n.0 n.1) (IsNamedBy rows q) row
IsSoundAt rows kind.Cubby q row = IsOf (λ (e : Owned). cubby_row e.0 e.1) (IsObjectAt rows q) row
IsSoundAt rows kind.Lease q row = IsOf (λ (h : Held). lease_row h.0 h.1) (IsLeaseAt rows q) row
IsSoundAt rows kind.Credential q row = IsOf credential_row (IsCredentialOf rows q) row
IsSoundAt rows kind.KvKey q row = IsOf key_entry_row (IsKeyAt q) row
IsSoundAt rows kind.KvVersion q row = IsOf version_row (IsVersionAt rows q) row
IsSoundAt rows kind.Waiting q row = IsOf waiting_row (IsWaitingAt rows q) row
IsSoundAt rows kind.Mount q row = IsOf mount_row (IsSoundMount q) row
IsSoundAt rows kind.Policy q row = IsOf policy_row (IsSoundPolicy forms q) row
IsSoundAt rows kind.Role q row = IsOf role_row (IsSoundRole q) row
