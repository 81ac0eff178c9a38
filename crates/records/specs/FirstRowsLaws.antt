-- Laws of the rows of the first broker.
use Rattle.std.proofs.Common.{◌≡◌, ◌+◌, if◌then◌else◌, ℕ, [], take, drop, codes, Bool, true, false, not, is_none, Some}
use Rattle.broker_types.specs.Words.{⊤, Option, None, option_map, option_and_then, get-empty, refl, sym, ◌∙◌, ap, Text}
use Rattle.broker_types.specs.Words.{text_cmp, same, get, empty, put, first_where, id, token_text, Token, Lease, Key}
use Rattle.broker_types.specs.Words.{Broker, Waiting, first_broker, root_token, default_policy, secret_mount}
use Rattle.std.specs.FinMap as map
use Rattle.std.specs.List.{find}
use Rattle.broker_types.specs.TextLaws.{same_equiv}
use Rattle.broker_types.specs.MapLaws.{get-put, get-one, entries-empty, entries-one}
use Rattle.records.specs.declared.kind.Kind.{Kind}
use Rattle.records.specs.declared.kind.Kind.TheVariants as kind
use Rattle.records.specs.declared.row.Row.{Row}
use Rattle.records.specs.declared.holder.Holder.TheVariants as holder
use Rattle.records.specs.Transaction.{Rows}
use Rattle.records.specs.Table.{Table, table_of, with_row}
use Rattle.records.specs.TableLaws.{table_of-insert, table_of-empty}
use Rattle.records.specs.RowForms.{clock_row, used_row, token_row, accessor_row, cubby_row, lease_row, credential_row}
use Rattle.records.specs.RowForms.{key_row, version_row, waiting_row, mount_row, policy_row, role_row}
use Rattle.records.specs.Rows.{rows_of, has_slash, object_row, token_len, has_lease, lease_of_credential, or_else}
use Rattle.records.specs.Rows.{version_at, version_row_of, version_of_digits}
use Rattle.records.specs.Splits.{line_feed, split_once}
use Rattle.records.specs.FirstRows.{with_settings, with_root}

-- ---- maps with one entry, and with none

module _ {X : Type 0} where
  one_mapped : {Y : Type 0} (f : X → Y) (k : Text) (x : X) (q : Text)
      → option_map f (get (put empty k x) q) ≡ (if same q k then Some (f x) else None)
  one_mapped f k x q =
      ap (option_map f) (get-one k x q)
      ∙ elim (same q k) as
      (λ v. option_map f (if v then Some x else None) ≡ (if v then Some (f x) else None)) [
        | true ↦ refl
        | false ↦ refl
      ]

  searched_empty : (p : Text → X → Bool) → first_where p (empty {X = X} {R = text_cmp}) ≡ None
  searched_empty p = ap (find (λ e. p e.0 e.1)) entries-empty

  searched_one : (p : Text → X → Bool) (k : Text) (x : X)
      → first_where p (put empty k x) ≡ (if p k x then Some (k, x) else None)
  searched_one p k x = ap (find (λ e. p e.0 e.1)) (entries-one k x)

-- ---- the table of the first broker

module _ (moment v w : ℕ) where
  abbrev first : Broker
  first = first_broker moment v w

  abbrev token : Text
  token = token_text (id v)

  abbrev root : Token
  root = root_token moment (id w)

  used : (q : Text) → option_map (λ (u : ⊤). used_row) (get (put (put empty (id v) tt) (id w) tt) q)
      ≡ (if same q (id w) then Some used_row else (if same q (id v) then Some used_row else None))
  used q =
      ap (option_map (λ (u : ⊤). used_row)) (get-put (put empty (id v) tt) (id w) tt q)
      ∙ elim (same q (id w)) as
      (λ b. option_map (λ (u : ⊤). used_row) (if b then Some tt else get (put empty (id v) tt) q)
      ≡ (if b then Some used_row else (if same q (id v) then Some used_row else None))) [
        | true ↦ refl
        | false ↦ one_mapped (λ (u : ⊤). used_row) (id v) tt q
      ]

  abbrev found : Bool → Option Row
  found b =
      let entry : Text × Token = (token, root) in
      or_else (option_map (λ e. accessor_row e.0 holder.Token) (if b then Some entry else None)) None

  accessors : (q : Text)
      → or_else (option_map (λ e. accessor_row e.0 holder.Token)
      (first_where (λ t (x : Token). same x.accessor q) (put empty token root)))
      (option_map (λ e. accessor_row e.0 holder.WrappingToken)
      (first_where (λ t (x : Waiting). same x.accessor q) empty))
      ≡ (if same q (id w) then Some (accessor_row token holder.Token) else None)
  accessors q =
      (λ i. or_else (option_map (λ e. accessor_row e.0 holder.Token)
      (searched_one (λ t (x : Token). same x.accessor q) token root i))
      (option_map (λ e. accessor_row e.0 holder.WrappingToken)
      (searched_empty (λ t (x : Waiting). same x.accessor q) i)))
      ∙ ap found (same_equiv.symm (id w) q)
      ∙ elim (same q (id w)) as
      (λ b. found b ≡ (if b then Some (accessor_row token holder.Token) else None)) [ true ↦ refl | false ↦ refl ]

  no_objects : (u p : Text) → object_row first.tokens u p ≡ None
  no_objects u p =
      ap (option_and_then (λ (x : Token). option_map (cubby_row u) (get x.cubbyhole p))) (get-one token root u)
      ∙ elim (same u token) as
      (λ b. option_and_then (λ (x : Token). option_map (cubby_row u) (get x.cubbyhole p))
      (if b then Some root else None) ≡ None) [
        | true ↦ ap (option_map (cubby_row u)) (get-empty text_cmp p)
        | false ↦ refl
      ]

  either : {X : Type 0} (b : Bool) (x : Option X) → x ≡ None → (if b then x else None) ≡ None
  either true x e = e
  either false x e = refl

  leases : (q : Text) → option_and_then (λ e. option_map (λ l. lease_row e.0 l) (get e.1.leases q))
      (first_where (λ t (x : Token). has_lease q x) (put empty token root)) ≡ None
  leases q =
      ap (option_and_then (λ e. option_map (λ l. lease_row e.0 l) (get e.1.leases q)))
      (searched_one (λ t (x : Token). has_lease q x) token root
      ∙ ap (λ (o : Option Lease). if not (is_none o) then Some (token, root) else None) (get-empty text_cmp q))

  credentials : (q : Text) → option_and_then (λ e. option_map (λ l. credential_row l.0) (lease_of_credential q e.1))
      (first_where (λ t (x : Token). not (is_none (lease_of_credential q x))) (put empty token root)) ≡ None
  credentials q =
      ap (option_and_then (λ e. option_map (λ l. credential_row l.0) (lease_of_credential q e.1)))
      (searched_one (λ t (x : Token). not (is_none (lease_of_credential q x))) token root
      ∙ ap (λ (o : Option (Text × Lease)). if not (is_none o) then Some (token, root) else None)
      (searched_empty (λ lease_id (l : Lease). same l.credential q)))

  no_version : (o : Option (Text × Text)) → option_and_then (version_at first.secrets) o ≡ None
  no_version None = refl
  no_version (Some p) =
      elim (version_of_digits p.1) as (λ o. version_row_of (get first.secrets p.0) o ≡ None) [
        | None ↦ refl
        | Some n ↦ ap (option_and_then (λ (k : Key). option_map version_row (map.get k.versions n)))
            (get-empty text_cmp p.0)
      ]

  -- the tables of the settings, of the identifiers given out too, and of all that a start puts
  abbrev settings_table : Table
  settings_table =
      with_row
      (with_row (with_row (λ k q. None) kind.Clock [] (clock_row moment)) kind.Mount (codes "secret")
      (mount_row secret_mount))
      kind.Policy (codes "default") (policy_row default_policy)

  abbrev used_table : Table
  used_table = with_row (with_row settings_table kind.Used (id v) used_row) kind.Used (id w) used_row

  abbrev first_table : Table
  first_table =
      with_row (with_row used_table kind.Token token (token_row root)) kind.Accessor (id w)
      (accessor_row token holder.Token)

  first_told : (k : Kind) (q : Text) → first_table k q ≡ rows_of first k q
  unfolding rows_of
  first_told kind.Clock q = refl
  first_told kind.Used q = sym (used q)
  first_told kind.Token q = sym (one_mapped token_row token root q)
  first_told kind.Accessor q = sym (accessors q)
  first_told kind.Cubby q = sym (either (has_slash q) _ (no_objects (take token_len q) (drop (token_len + 1) q)))
  first_told kind.Lease q = sym (leases q)
  first_told kind.Credential q = sym (credentials q)
  first_told kind.KvKey q = sym (ap (option_map key_row) (get-empty text_cmp q))
  first_told kind.KvVersion q = sym (no_version (split_once line_feed q))
  first_told kind.Waiting q = sym (ap (option_map waiting_row) (get-empty text_cmp q))
  first_told kind.Mount q = sym (one_mapped mount_row (codes "secret") secret_mount q)
  first_told kind.Policy q = sym (one_mapped policy_row (codes "default") default_policy q)
  first_told kind.Role q = sym (ap (option_map role_row) (get-empty text_cmp q))

  -- the rows that a start puts are those of the first broker
  pub rows-first : table_of (with_root (with_settings map.empty moment) moment (id v) (id w) token) ≡ rows_of first
  rows-first = puts ∙ (λ i k q. first_told k q i)
    where
      step : (rows : Rows) (table : Table) (k : Kind) (key : Text) (row : Row) → table_of rows ≡ table
          → table_of (map.insert rows (k, key) row) ≡ with_row table k key row
      step rows table k key row e = table_of-insert rows k key row ∙ ap (λ t. with_row t k key row) e

      puts : table_of (with_root (with_settings map.empty moment) moment (id v) (id w) token) ≡ first_table
      puts =
          step _ _ kind.Accessor (id w) _
          (step _ _ kind.Token token _
          (step _ _ kind.Used (id w) _
          (step _ _ kind.Used (id v) _
          (step _ _ kind.Policy (codes "default") _
          (step _ _ kind.Mount (codes "secret") _ (step _ _ kind.Clock [] _ table_of-empty))))))
