-- Which row breaks which rule: no row of a sound broker does (this project's definition).
use Rattle.std.specs.Prelude.{◌≡◌, ◌≢◌, ◌<◌, ◌≤◌, ◌⊎◌, ◌++◌, ◌∷◌, [], ℕ, All, true, Some, None, codes, ⊤, zero, suc}
use Rattle.broker_model.specs.Words.{Option, Result, IfOk, IfSome, Text, token_text, id, is_name, is_mount_name}
use Rattle.broker_model.specs.Words.{lease_identifier, Waiting, IsMoment, IsIdentifier, IsTokenText, IsShortText}
use Rattle.broker_model.specs.Words.{IsPathText, IsLeaseId, IsSecretName, Fault, forms, Kind, Row, RowKey, KeyEntry}
use Rattle.broker_model.specs.Words.{IsTokenInRange, IsLeaseInRange, IsKeyInRange, IsOldKey, IsVersionInRange}
use Rattle.broker_model.specs.Words.{IsWaitingInRange, IsMountInRange, IsRoleInRange, IsWide, IsSomeIn, clock_row}
use Rattle.broker_model.specs.Words.{used_row, entry_row, accessor_row, cubby_row, lease_row, credential_row}
use Rattle.broker_model.specs.Words.{key_entry_row, old_key_row, version_row, waiting_row, mount_row, policy_row}
use Rattle.broker_model.specs.Words.{role_row, version_key, slash, line_feed, lacks, Table}
use Rattle.records.specs.declared.holder.Holder.TheVariants as holder
use Rattle.records.specs.declared.kind.Kind.TheVariants as kind
use Rattle.soundness.specs.declared.trouble.Rule.{Rule}
use Rattle.soundness.specs.declared.trouble.Rule.TheVariants as rule
use Rattle.soundness.specs.declared.trouble.Trouble.{Trouble}
use Rattle.soundness.specs.RowRules.{IsOf, Named, IsNamedBy, Owned, Held, IsCredentialOf}
use Rattle.soundness.specs.Texts.{IsRoleName, are_fit}

-- what a test answers that a rule is broken is so
abbrev pub Shows : {B : Type 0} → Result (Option B) Fault → (B → Type 0) → Type 0
Shows result P = IfOk result (λ broken. IfSome broken P)

-- ---- formats and keys

-- the row is in the format of its kind
abbrev pub IsInFormat : Kind → Row → Type 0
IsInFormat kind.Clock row = IsOf clock_row IsMoment row
IsInFormat kind.Used row = row ≡ used_row
IsInFormat kind.Token row = IsOf entry_row IsTokenInRange row
IsInFormat kind.Accessor row = IsOf (λ (n : Named). accessor_row n.0 n.1) (λ _. ⊤) row
IsInFormat kind.Cubby row = IsOf (λ (e : Owned). cubby_row e.0 e.1) (λ e. IsShortText e.1) row
IsInFormat kind.Lease row = IsOf (λ (h : Held). lease_row h.0 h.1) (λ h. IsLeaseInRange h.1) row
IsInFormat kind.Credential row = IsOf credential_row (λ _. ⊤) row
IsInFormat kind.KvKey row = IsOf key_entry_row IsKeyInRange row
IsInFormat kind.KvVersion row = IsOf version_row IsVersionInRange row
IsInFormat kind.Waiting row = IsOf waiting_row IsWaitingInRange row
IsInFormat kind.Mount row = IsOf mount_row IsMountInRange row
IsInFormat kind.Policy row = IsOf policy_row IsShortText row
IsInFormat kind.Role row = IsOf role_row IsRoleInRange row

-- the key of the version of a secret: the name has no line feed
pub record IsVersionKey (q name : Text) (number : ℕ) : Type 0 where
  pub name_lacks : lacks line_feed name ≡ true
  pub wide : IsWide number
  pub is_key : q ≡ version_key name number

-- the key is one of its kind; that of an object begins with the owner of its row
abbrev pub IsKeyOf : Kind → Text → Text → Type 0
IsKeyOf kind.Clock q owner = q ≡ []
IsKeyOf kind.Used q owner = IsIdentifier q
IsKeyOf kind.Token q owner = IsTokenText q
IsKeyOf kind.Accessor q owner = IsIdentifier q
IsKeyOf kind.Cubby q owner = (path : Text) × (q ≡ owner ++ slash ∷ path) × IsPathText path
IsKeyOf kind.Lease q owner = IsLeaseId q
IsKeyOf kind.Credential q owner = IsIdentifier q
IsKeyOf kind.KvKey q owner = IsSecretName q
IsKeyOf kind.KvVersion q owner = (name : Text) × (number : ℕ) × IsVersionKey q name number
IsKeyOf kind.Waiting q owner = IsTokenText q
IsKeyOf kind.Mount q owner = is_mount_name q ≡ true
IsKeyOf kind.Policy q owner = (is_name q ≡ true) × (q ≢ codes "root")
IsKeyOf kind.Role q owner = IsRoleName q

-- ---- what a record says

-- the row is that of a record that rows can hold, of which P does not hold
abbrev pub IsBad : {X : Type 0} → (X → Row) → (X → Type 0) → (X → Type 0) → Row → Type 0
IsBad row_of IsInRange P row = IsOf row_of (λ x. IsInRange x × (P x → ⊥)) row

-- a text in the row is not one of its kind
abbrev pub BreaksText : Kind → Row → Type 0
BreaksText kind.Token row = IsBad entry_row IsTokenInRange (λ x. All (λ p. is_name p ≡ true) x.policies) row
BreaksText kind.Cubby row =
    IsBad (λ (e : Owned). cubby_row e.0 e.1) (λ e. IsShortText e.1) (λ e. forms.is_object e.1 ≡ true) row
BreaksText kind.KvKey row = IsBad key_entry_row IsKeyInRange (λ k. are_fit k.custom_metadata ≡ true) row
BreaksText kind.KvVersion row =
    IsBad version_row IsVersionInRange (λ v. IsSomeIn (λ t. forms.is_object t ≡ true) v.secret) row
BreaksText kind.Waiting row = IsBad waiting_row IsWaitingInRange (λ w. IsPathText w.path) row
BreaksText kind.Policy row = IsBad policy_row IsShortText (λ p. forms.is_policy p ≡ true) row
BreaksText _ row = ⊥

-- the row under a name is that of the key
abbrev pub IsKeyRow : Table → Text → KeyEntry → Type 0
IsKeyRow rows name k = IsKeyInRange k × (rows kind.KvKey name ≡ Some (key_entry_row k))

-- a number is not in its range: the ttl of a lease is above its greatest, a version is not one of its key, a response
-- does not wait
abbrev pub BreaksNumber : Table → Kind → Text → Row → Type 0
BreaksNumber rows kind.Lease q row =
    IsBad (λ (h : Held). lease_row h.0 h.1) (λ h. IsLeaseInRange h.1) (λ h. h.1.ttl ≤ h.1.max_ttl) row
BreaksNumber rows kind.KvVersion q row =
    (name : Text) × (number : ℕ) × (k : KeyEntry) × IsVersionKey q name number × IsKeyRow rows name k
    × ((0 < number) × (number ≤ k.current) → ⊥)
BreaksNumber rows kind.Waiting q row = IsBad waiting_row IsWaitingInRange (λ w. 0 < w.ttl) row
BreaksNumber rows _ q row = ⊥

-- the last use of a token is spent
abbrev pub BreaksUses : Kind → Row → Type 0
BreaksUses kind.Token row = IsOf entry_row (λ x. IsTokenInRange x × (x.uses_left ≡ Some 0)) row
BreaksUses _ row = ⊥

-- ---- other rows that a row needs

-- the parent of a token has no row
abbrev pub BreaksParent : Table → Kind → Row → Type 0
BreaksParent rows kind.Token row =
    IsOf entry_row
    (λ x. IsTokenInRange x × ((p : Text) × (x.parent ≡ Some p) × (rows kind.Token p ≡ None))) row
BreaksParent rows _ row = ⊥

-- the owner has no row, or has not what the row says
abbrev pub BreaksOwner : Table → Kind → Text → Row → Type 0
BreaksOwner rows kind.Accessor q row = IsBad (λ (n : Named). accessor_row n.0 n.1) (λ _. ⊤) (IsNamedBy rows q) row
BreaksOwner rows kind.Cubby q row =
    IsOf (λ (e : Owned). cubby_row e.0 e.1) (λ e. IsShortText e.1 × (rows kind.Token e.0 ≡ None)) row
BreaksOwner rows kind.Lease q row =
    IsOf (λ (h : Held). lease_row h.0 h.1) (λ h. IsLeaseInRange h.1 × (rows kind.Token h.0 ≡ None)) row
BreaksOwner rows kind.Credential q row = IsBad credential_row (λ _. ⊤) (IsCredentialOf rows q) row
BreaksOwner rows kind.KvVersion q row =
    (name : Text) × (number : ℕ) × IsVersionKey q name number × ((k : KeyEntry) → IsKeyRow rows name k → ⊥)
BreaksOwner rows _ q row = ⊥

-- the accessor in the row has no row that names this one
abbrev pub BreaksAccessor : Table → Kind → Text → Row → Type 0
BreaksAccessor rows kind.Token q row =
    IsBad entry_row IsTokenInRange
    (λ x. rows kind.Accessor x.accessor ≡ Some (accessor_row q holder.Token)) row
BreaksAccessor rows kind.Waiting q row =
    IsBad waiting_row IsWaitingInRange
    (λ w. rows kind.Accessor w.accessor ≡ Some (accessor_row q holder.WrappingToken)) row
BreaksAccessor rows _ q row = ⊥

-- nor has the credential in the row of a lease
abbrev pub BreaksCredential : Table → Kind → Text → Row → Type 0
BreaksCredential rows kind.Lease q row =
    IsBad (λ (h : Held). lease_row h.0 h.1) (λ h. IsLeaseInRange h.1)
    (λ h. rows kind.Credential h.1.credential ≡ Some (credential_row q)) row
BreaksCredential rows _ q row = ⊥

-- ---- chains of parents

-- The chain of owners from a token goes over rows of tokens, at most n, and ends at one without an owner.
abbrev pub RootedIn : ℕ → Table → Text → Type 0
RootedIn zero rows t = ⊥
RootedIn (suc n) rows t =
    IsTokenText t
    × ((row : Row) × (rows kind.Token t ≡ Some row) × ((row.owner ≡ []) ⊎ RootedIn n rows row.owner))

-- over any number of them
abbrev pub IsRooted : Table → Text → Type 0
IsRooted rows t = (n : ℕ) × RootedIn n rows t

-- the chain of parents of a token does not end in this way
abbrev pub BreaksChain : Table → Kind → Text → Type 0
BreaksChain rows kind.Token q = IsRooted rows q → ⊥
BreaksChain rows _ q = ⊥

-- ---- identifiers

-- the key of a row has the identifier
abbrev pub HasIdentifier : Kind → Text → Text → Type 0
HasIdentifier kind.Token q i = q ≡ token_text i
HasIdentifier kind.Waiting q i = q ≡ token_text i
HasIdentifier kind.Accessor q i = q ≡ i
HasIdentifier kind.Credential q i = q ≡ i
HasIdentifier kind.Lease q i = lease_identifier q ≡ i
HasIdentifier _ q i = ⊥

-- it is not marked as given out
abbrev pub BreaksMark : Table → Kind → Text → Type 0
BreaksMark rows k q = (i : Text) × HasIdentifier k q i × (rows kind.Used i ≡ None)

-- it is in another row too
pub record BreaksPlace (rows : Table) (k : Kind) (q : Text) : Type 0 where
  pub word : ℕ
  pub here : HasIdentifier k q (id word)
  pub other : RowKey
  pub is_other : other ≢ (k, q)
  pub there : rows other.0 other.1 ≢ None
  pub has_it : HasIdentifier other.0 other.1 (id word)

-- the text is no identifier, is not marked as given out, or is the origin of another response too
abbrev pub IsBadOrigin : Table → Text → Text → Type 0
IsBadOrigin rows q i =
    (IsIdentifier i → ⊥) ⊎ ((rows kind.Used i ≡ None)
    ⊎ ((t : Text) × (v : Waiting) × (t ≢ q) × IsWaitingInRange v × (rows kind.Waiting t ≡ Some (waiting_row v))
    × (v.origin ≡ i)))

-- the origin of a response is such a text
abbrev pub BreaksOrigin : Table → Kind → Text → Row → Type 0
BreaksOrigin rows kind.Waiting q row = IsOf waiting_row (λ w. IsWaitingInRange w × IsBadOrigin rows q w.origin) row
BreaksOrigin rows _ q row = ⊥

-- ---- each rule

-- the row at a kind and key breaks the rule
abbrev pub BreaksAt : Table → Rule → Kind → Text → Row → Type 0
BreaksAt rows rule.Missing k q row = ⊥
BreaksAt rows rule.Format k q row = IsInFormat k row → ⊥
BreaksAt rows rule.OldFormat k q row = (k ≡ kind.KvKey) × IsOf old_key_row IsOldKey row
BreaksAt rows rule.Key k q row = IsKeyOf k q row.owner → ⊥
BreaksAt rows rule.Text k q row = BreaksText k row
BreaksAt rows rule.Number k q row = BreaksNumber rows k q row
BreaksAt rows rule.Uses k q row = BreaksUses k row
BreaksAt rows rule.Parent k q row = BreaksParent rows k row
BreaksAt rows rule.Chain k q row = BreaksChain rows k q
BreaksAt rows rule.Owner k q row = BreaksOwner rows k q row
BreaksAt rows rule.Accessor k q row = BreaksAccessor rows k q row
BreaksAt rows rule.Credential k q row = BreaksCredential rows k q row
BreaksAt rows rule.Mark k q row = BreaksMark rows k q
BreaksAt rows rule.Place k q row = BreaksPlace rows k q
BreaksAt rows rule.Origin k q row = BreaksOrigin rows k q row

-- the row of the clock is missing
pub record IsMissing (rows : Table) (t : Trouble) : Type 0 where
  pub of_rule : t.rule ≡ rule.Missing
  pub of_clock : t.kind ≡ kind.Clock
  pub no_key : t.key ≡ []
  pub no_row : rows t.kind t.key ≡ None

-- the row that a trouble names breaks the rule that it names
abbrev pub Breaks : Table → Trouble → Type 0
Breaks rows t =
    IsMissing rows t ⊎ ((row : Row) × (rows t.kind t.key ≡ Some row) × BreaksAt rows t.rule t.kind t.key row)
