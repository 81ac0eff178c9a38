-- The broker that is read off sound rows.
use Rattle.std.proofs.Common.{◌≡◌, ◌≤◌, ◌+◌, ◌++◌, ◌∷◌, if◌then◌else◌, [], ℕ, length, drop, nat_le, true, false, Option}
use Rattle.broker_model.specs.Words.{⊤, Some, None, option_map, option_and_then, nat_cmp_total, nat_list_cmp_total}
use Rattle.broker_model.specs.Words.{FinMap, from_entries, nat_cmp-IsAntisymmetric, nat_cmp, refl, sym, ◌∙◌, ap, inl}
use Rattle.broker_model.specs.Words.{inr, drop-append-add, leb-true, none-some, Text, same, greatest_version, Map, get}
use Rattle.broker_model.specs.Words.{map_values, found_or_not, mapped, Key, Version, Token, Tokens, Lease, Broker}
use Rattle.broker_model.specs.Words.{Waiting, Mount, Role, IsIdentifier, IsSoundMount, IsSoundPolicy, IsSoundRole}
use Rattle.broker_model.specs.Words.{forms, Row, key_path, digits_after-padded, wide, KeyEntry, TokenEntry, RowKey}
use Rattle.broker_model.specs.Words.{used_row, entry_row, accessor_row, cubby_row, lease_row, credential_row}
use Rattle.broker_model.specs.Words.{key_entry_row, version_row, waiting_row, mount_row, policy_row, role_row}
use Rattle.broker_model.specs.Words.{token_len, version_key, padded, digits_after, slash, line_feed, Table, table_of}
use Rattle.broker_model.specs.Words.{Rows}
use Rattle.std.specs.FinMap as fin
use Rattle.records.specs.declared.kind.Kind.TheVariants as kind
use Rattle.soundness.specs.Words.{IsTokenAt, Named, IsNamedBy, Owned, IsObjectAt, Held, IsLeaseAt, IsCredentialOf}
use Rattle.soundness.specs.Words.{IsKeyAt, IsVersionAt, IsWaitingAt, AreSound}
use Rattle.soundness.proofs.Gather.{gather, get-gather, records, told, holds, text_exact}

module _ (rows : Rows) (s : AreSound (table_of rows)) where
  abbrev pub at : Table
  at = table_of rows

  -- ---- the records of the rows, kind by kind

  abbrev pub named_row : Named → Row
  named_row n = accessor_row n.0 n.1

  abbrev pub owned_row : Owned → Row
  owned_row e = cubby_row e.0 e.1

  abbrev pub held_row : Held → Row
  held_row h = lease_row h.0 h.1

  abbrev pub used : Map ⊤
  used = records rows kind.Used (λ _. used_row) (λ q _. IsIdentifier q) (s.each kind.Used)

  abbrev pub entry_map : Map TokenEntry
  entry_map = records rows kind.Token entry_row (IsTokenAt at) (s.each kind.Token)

  abbrev pub named_map : Map Named
  named_map = records rows kind.Accessor named_row (IsNamedBy at) (s.each kind.Accessor)

  abbrev pub object_map : Map Owned
  object_map = records rows kind.Cubby owned_row (IsObjectAt at) (s.each kind.Cubby)

  abbrev pub held_map : Map Held
  held_map = records rows kind.Lease held_row (IsLeaseAt at) (s.each kind.Lease)

  abbrev pub credential_map : Map Text
  credential_map = records rows kind.Credential credential_row (IsCredentialOf at) (s.each kind.Credential)

  abbrev pub key_map : Map KeyEntry
  key_map = records rows kind.KvKey key_entry_row IsKeyAt (s.each kind.KvKey)

  abbrev pub version_map : Map Version
  version_map = records rows kind.KvVersion version_row (IsVersionAt at) (s.each kind.KvVersion)

  abbrev pub waiting : Map Waiting
  waiting = records rows kind.Waiting waiting_row (IsWaitingAt at) (s.each kind.Waiting)

  abbrev pub mounts : Map Mount
  mounts = records rows kind.Mount mount_row IsSoundMount (s.each kind.Mount)

  abbrev pub policies : Map Text
  policies = records rows kind.Policy policy_row (IsSoundPolicy forms) (s.each kind.Policy)

  abbrev pub roles : Map Role
  roles = records rows kind.Role role_row IsSoundRole (s.each kind.Role)

  pub used_told : (q : Text) → at kind.Used q ≡ option_map (λ _. used_row) (get used q)
  used_told = told rows kind.Used (λ _. used_row) (λ q _. IsIdentifier q) (s.each kind.Used)

  pub used_good : (q : Text) (u : ⊤) → get used q ≡ Some u → IsIdentifier q
  used_good = holds rows kind.Used (λ _. used_row) (λ q _. IsIdentifier q) (s.each kind.Used)

  pub entry_told : (t : Text) → at kind.Token t ≡ option_map entry_row (get entry_map t)
  entry_told = told rows kind.Token entry_row (IsTokenAt at) (s.each kind.Token)

  pub entry_good : (t : Text) (x : TokenEntry) → get entry_map t ≡ Some x → IsTokenAt at t x
  entry_good = holds rows kind.Token entry_row (IsTokenAt at) (s.each kind.Token)

  pub named_told : (a : Text) → at kind.Accessor a ≡ option_map named_row (get named_map a)
  named_told = told rows kind.Accessor named_row (IsNamedBy at) (s.each kind.Accessor)

  pub named_good : (a : Text) (n : Named) → get named_map a ≡ Some n → IsNamedBy at a n
  named_good = holds rows kind.Accessor named_row (IsNamedBy at) (s.each kind.Accessor)

  pub object_told : (q : Text) → at kind.Cubby q ≡ option_map owned_row (get object_map q)
  object_told = told rows kind.Cubby owned_row (IsObjectAt at) (s.each kind.Cubby)

  pub object_good : (q : Text) (e : Owned) → get object_map q ≡ Some e → IsObjectAt at q e
  object_good = holds rows kind.Cubby owned_row (IsObjectAt at) (s.each kind.Cubby)

  pub held_told : (q : Text) → at kind.Lease q ≡ option_map held_row (get held_map q)
  held_told = told rows kind.Lease held_row (IsLeaseAt at) (s.each kind.Lease)

  pub held_good : (q : Text) (h : Held) → get held_map q ≡ Some h → IsLeaseAt at q h
  held_good = holds rows kind.Lease held_row (IsLeaseAt at) (s.each kind.Lease)

  pub credential_told : (c : Text) → at kind.Credential c ≡ option_map credential_row (get credential_map c)
  credential_told = told rows kind.Credential credential_row (IsCredentialOf at) (s.each kind.Credential)

  pub credential_good : (c lease_id : Text) → get credential_map c ≡ Some lease_id → IsCredentialOf at c lease_id
  credential_good = holds rows kind.Credential credential_row (IsCredentialOf at) (s.each kind.Credential)

  pub key_told : (q : Text) → at kind.KvKey q ≡ option_map key_entry_row (get key_map q)
  key_told = told rows kind.KvKey key_entry_row IsKeyAt (s.each kind.KvKey)

  pub key_good : (q : Text) (k : KeyEntry) → get key_map q ≡ Some k → IsKeyAt q k
  key_good = holds rows kind.KvKey key_entry_row IsKeyAt (s.each kind.KvKey)

  pub version_told : (q : Text) → at kind.KvVersion q ≡ option_map version_row (get version_map q)
  version_told = told rows kind.KvVersion version_row (IsVersionAt at) (s.each kind.KvVersion)

  pub version_good : (q : Text) (v : Version) → get version_map q ≡ Some v → IsVersionAt at q v
  version_good = holds rows kind.KvVersion version_row (IsVersionAt at) (s.each kind.KvVersion)

  pub waiting_told : (t : Text) → at kind.Waiting t ≡ option_map waiting_row (get waiting t)
  waiting_told = told rows kind.Waiting waiting_row (IsWaitingAt at) (s.each kind.Waiting)

  pub waiting_good : (t : Text) (w : Waiting) → get waiting t ≡ Some w → IsWaitingAt at t w
  waiting_good = holds rows kind.Waiting waiting_row (IsWaitingAt at) (s.each kind.Waiting)

  pub mounts_told : (q : Text) → at kind.Mount q ≡ option_map mount_row (get mounts q)
  mounts_told = told rows kind.Mount mount_row IsSoundMount (s.each kind.Mount)

  pub mounts_good : (q : Text) (m : Mount) → get mounts q ≡ Some m → IsSoundMount q m
  mounts_good = holds rows kind.Mount mount_row IsSoundMount (s.each kind.Mount)

  pub policies_told : (q : Text) → at kind.Policy q ≡ option_map policy_row (get policies q)
  policies_told = told rows kind.Policy policy_row (IsSoundPolicy forms) (s.each kind.Policy)

  pub policies_good : (q text : Text) → get policies q ≡ Some text → IsSoundPolicy forms q text
  policies_good = holds rows kind.Policy policy_row (IsSoundPolicy forms) (s.each kind.Policy)

  pub roles_told : (q : Text) → at kind.Role q ≡ option_map role_row (get roles q)
  roles_told = told rows kind.Role role_row IsSoundRole (s.each kind.Role)

  pub roles_good : (q : Text) (r : Role) → get roles q ≡ Some r → IsSoundRole q r
  roles_good = holds rows kind.Role role_row IsSoundRole (s.each kind.Role)

  -- ---- what a token has

  abbrev pub object_read : Text → Text → Option Text
  object_read t path = option_map (λ (e : Owned). e.1) (get object_map (t ++ slash ∷ path))

  pub cubbyhole : Text → Map Text
  cubbyhole t = gather rows (λ key. drop (token_len + 1) key.1) (object_read t)

  -- its objects are those at the keys that begin with it
  pub get-cubbyhole : (t path : Text) → length t ≡ token_len → get (cubbyhole t) path ≡ object_read t path
  unfolding cubbyhole
  get-cubbyhole t path long =
      get-gather nat_list_cmp_total text_exact rows (λ key. drop (token_len + 1) key.1) (object_read t)
      (λ p object is.
      let e = mapped (λ (e : Owned). e.1) (get object_map (t ++ slash ∷ p)) object is in (
        (kind.Cubby, t ++ slash ∷ p),
        owned_row e.0,
        object_told (t ++ slash ∷ p) ∙ ap (option_map owned_row) e.1,
        key_path t p long,
      )) path

  abbrev pub of_owner : Text → Held → Option Lease
  of_owner t h = if same h.0 t then Some h.1 else None

  abbrev pub lease_read : Text → Text → Option Lease
  lease_read t lease_id = option_and_then (of_owner t) (get held_map lease_id)

  pub leases : Text → Map Lease
  leases t = gather rows (λ key. key.1) (lease_read t)

  -- its leases are those that it owns
  pub get-leases : (t lease_id : Text) → get (leases t) lease_id ≡ lease_read t lease_id
  unfolding leases
  get-leases t lease_id =
      get-gather nat_list_cmp_total text_exact rows (λ key. key.1) (lease_read t)
      (λ q l is. elim (found_or_not (get held_map q)) [
        | inl none ↦ absurd (none-some _ (sym (ap (option_and_then (of_owner t)) none) ∙ is))
        | inr h ↦ ((kind.Lease, q), held_row h.0, held_told q ∙ ap (option_map held_row) h.1, refl)
      ]) lease_id

  abbrev pub token_of : Text → TokenEntry → Token
  token_of t x =
      record {
        parent = x.parent;
        accessor = x.accessor;
        policies = x.policies;
        issued = x.issued;
        ends = x.ends;
        ttl = x.ttl;
        explicit_max_ttl = x.explicit_max_ttl;
        period = x.period;
        uses_left = x.uses_left;
        meta = from_entries x.meta;
        cubbyhole = cubbyhole t;
        leases = leases t;
      }

  abbrev pub tokens : Tokens
  tokens = map_values token_of entry_map

  -- ---- what a key has

  abbrev pub version_read : Text → ℕ → Option Version
  version_read name n = if nat_le n greatest_version then get version_map (version_key name n) else None

  pub versions : Text → FinMap nat_cmp Version
  versions name = gather rows (λ key. digits_after 0 (drop (length name + 1) key.1)) (version_read name)

  -- its versions are those at the keys that begin with its name
  pub get-versions : (name : Text) (n : ℕ) → fin.get (versions name) n ≡ version_read name n
  unfolding versions
  get-versions name n =
      get-gather nat_cmp_total nat_cmp-IsAntisymmetric rows (λ key. digits_after 0 (drop (length name + 1) key.1))
      (version_read name) from n
    where
      told_at : (m : ℕ) (v : Version) → m ≤ greatest_version → get version_map (version_key name m) ≡ Some v
          → (key : RowKey) × (row : Row) × (fin.get rows key ≡ Some row)
          × (digits_after 0 (drop (length name + 1) key.1) ≡ m)
      told_at m v within is = (
        (kind.KvVersion, version_key name m),
        version_row v,
        version_told (version_key name m) ∙ ap (option_map version_row) is,
        ap (digits_after 0) (drop-append-add name (line_feed ∷ padded m) 1) ∙ digits_after-padded m (wide m within),
      )

      from : (m : ℕ) (v : Version) → version_read name m ≡ Some v
          → (key : RowKey) × (row : Row) × (fin.get rows key ≡ Some row)
          × (digits_after 0 (drop (length name + 1) key.1) ≡ m)
      from m v =
          elim (nat_le m greatest_version)
          as (λ b. nat_le m greatest_version ≡ b
          → (if b then get version_map (version_key name m) else None) ≡ Some v
          → (key : RowKey) × (row : Row) × (fin.get rows key ≡ Some row)
          × (digits_after 0 (drop (length name + 1) key.1) ≡ m)) [
            | true ↦ λ within is. told_at m v (leb-true m greatest_version within) is
            | false ↦ λ _ is. absurd (none-some _ is)
          ] refl

  abbrev pub key_of : Text → KeyEntry → Key
  key_of q k =
      record {
        created = k.created;
        updated = k.updated;
        current = k.current;
        versions = versions q;
        cas_required = k.cas_required;
        max_versions = k.max_versions;
        custom_metadata = from_entries k.custom_metadata;
      }

  abbrev pub secrets : Map Key
  secrets = map_values key_of key_map

  -- ---- the broker

  pub clock_found : (row : Row) × (at kind.Clock [] ≡ Some row)
  clock_found = elim (found_or_not (at kind.Clock [])) [
    | inl none ↦ absurd (s.clock none)
    | inr row ↦ row
  ]

  abbrev pub clock : ℕ
  clock = (s.each kind.Clock [] clock_found.0 clock_found.1).0

  abbrev pub broker : Broker
  broker =
      record {
        clock = clock;
        used = used;
        tokens = tokens;
        secrets = secrets;
        waiting = waiting;
        mounts = mounts;
        roles = roles;
        policies = policies;
      }
