-- The rows of secrets and of their versions are those of the broker that is read off them.
use Rattle.std.proofs.Common.{◌≡◌, ◌≤◌, ◌++◌, ◌∷◌, if◌then◌else◌, ℕ, Some, None, option_map, option_and_then, sym, ◌∙◌}
use Rattle.std.specs.FinMap as fin
use Rattle.broker_model.specs.Words.{ap, inl, inr, le_trans, le-leb, none-some, Text, greatest_version, Map, get}
use Rattle.broker_model.specs.Words.{get-map_values, valued_is, found_or_not, mapped, Key, Version, Row}
use Rattle.broker_model.specs.Words.{version_of_digits-padded, digits_are, listed_entries, KeyEntry, key_entry}
use Rattle.broker_model.specs.Words.{key_entry_row, key_row, version_row, secret_rows, version_at, version_row_of}
use Rattle.broker_model.specs.Words.{version_of_digits, version_key, padded, name_lacks, line_feed, split_once}
use Rattle.broker_model.specs.Words.{split-lacking, lacking_split, Table, table_of, Rows}
use Rattle.records.specs.declared.kind.Kind.TheVariants as kind
use Rattle.soundness.specs.Words.{IsKeyAt, AreSound}
use Rattle.soundness.proofs.ReadBack as read
use Rattle.soundness.proofs.TokenFacts.{mapped_alike, both_ways, same_key}

module _ (rows : Rows) (s : AreSound (table_of rows)) where
  abbrev at : Table
  at = table_of rows

  abbrev secrets : Map Key
  secrets = read.secrets rows s

  pub get-secrets : (q : Text) → get secrets q ≡ option_map (read.key_of rows s q) (get (read.key_map rows s) q)
  get-secrets q = get-map_values (read.key_of rows s) (read.key_map rows s) q

  -- the entry of a key that is read back is the one that its row has
  key_back : (q : Text) (k : KeyEntry) → IsKeyAt q k → key_entry (read.key_of rows s q k) ≡ k
  key_back q k good =
      λ i. record k { custom_metadata = listed_entries k.custom_metadata good.in_range.custom_metadata.ascend i }

  pub key_told : (q : Text) → at kind.KvKey q ≡ secret_rows secrets kind.KvKey q
  key_told q =
      read.key_told rows s q
      ∙ mapped_alike key_entry_row key_row (read.key_of rows s q) (get (read.key_map rows s) q)
      (λ k is. ap key_entry_row (sym (key_back q k (read.key_good rows s q k is))))
      ∙ ap (option_map key_row) (sym (get-secrets q))

  -- ---- versions

  version_there : (q : Text) (r : Row) → at kind.KvVersion q ≡ Some r → secret_rows secrets kind.KvVersion q ≡ Some r
  version_there q r is =
      let v = mapped version_row (get (read.version_map rows s) q) r (sym (read.version_told rows s q) ∙ is) in
      let good = read.version_good rows s q v.0 v.1 in
      let name = good.name in
      let n = good.number in
      let key = same_key rows s name good.key good.key_in_range good.key_row in
      let key_at = read.key_good rows s name good.key key in
      let within : n ≤ greatest_version = le_trans good.last good.key_in_range.current in
      let secret : get secrets name ≡ Some (read.key_of rows s name good.key) =
      get-secrets name ∙ ap (option_map (read.key_of rows s name)) key in
      let version : fin.get (read.versions rows s name) n ≡ Some v.0 =
      read.get-versions rows s name n
      ∙ ap (λ b. if b then get (read.version_map rows s) (version_key name n) else None)
      (le-leb n greatest_version within)
      ∙ ap (get (read.version_map rows s)) (sym good.is_key) ∙ v.1 in
      ap (λ z. option_and_then (version_at secrets) (split_once line_feed z)) good.is_key
      ∙ ap (option_and_then (version_at secrets))
      (split-lacking line_feed name (padded n) (name_lacks name key_at.name))
      ∙ (λ i. version_row_of (secret i) (version_of_digits-padded n within i))
      ∙ ap (option_map version_row) version ∙ ap Some (sym v.2)

  -- a version that is read of a key
  read_version : (name : Text) (n : ℕ) (v : Version) → n ≤ greatest_version → read.version_read rows s name n ≡ Some v
      → get (read.version_map rows s) (version_key name n) ≡ Some v
  read_version name n v within is =
      ap (λ b. if b then get (read.version_map rows s) (version_key name n) else None)
      (sym (le-leb n greatest_version within))
      ∙ is

  version_of : (q : Text) (r : Row) (p : Text × Text) (n : ℕ) (k : Key) → split_once line_feed q ≡ Some p
      → version_of_digits p.1 ≡ Some n → get secrets p.0 ≡ Some k
      → option_map version_row (fin.get k.versions n) ≡ Some r → at kind.KvVersion q ≡ Some r
  version_of q r p n k split digits in_p e =
      let entry = valued_is (read.key_of rows s) (read.key_map rows s) p.0 k in_p in
      let v = mapped version_row (fin.get k.versions n) r e in
      let within = digits_are p.1 n digits in
      let kept : fin.get (read.versions rows s p.0) n ≡ Some v.0 =
      ap (λ (z : Key). fin.get z.versions n) (sym entry.2) ∙ v.1 in
      let version = read_version p.0 n v.0 within.0 (sym (read.get-versions rows s p.0 n) ∙ kept) in
      let is_key : q ≡ version_key p.0 n =
      (lacking_split line_feed q p split).0 ∙ ap (λ d. p.0 ++ line_feed ∷ d) within.1 in
      ap (at kind.KvVersion) is_key ∙ read.version_told rows s (version_key p.0 n) ∙ ap (option_map version_row) version
      ∙ ap Some (sym v.2)

  version_back : (q : Text) (r : Row) → secret_rows secrets kind.KvVersion q ≡ Some r → at kind.KvVersion q ≡ Some r
  version_back q r is = elim (found_or_not (split_once line_feed q)) [
    | inl none ↦ absurd (none-some _ (sym (ap (option_and_then (version_at secrets)) none) ∙ is))
    | inr p ↦
        let at_p : version_row_of (get secrets p.0.0) (version_of_digits p.0.1) ≡ Some r =
        sym (ap (option_and_then (version_at secrets)) p.1) ∙ is in
        elim (found_or_not (version_of_digits p.0.1)) [
          | inl none ↦ absurd (none-some _ (sym (ap (version_row_of (get secrets p.0.0)) none) ∙ at_p))
          | inr n ↦
              let at_n : version_row_of (get secrets p.0.0) (Some n.0) ≡ Some r =
              sym (ap (version_row_of (get secrets p.0.0)) n.1) ∙ at_p in
              elim (found_or_not (get secrets p.0.0)) [
                | inl none ↦ absurd (none-some _ (sym (ap (λ k. version_row_of k (Some n.0)) none) ∙ at_n))
                | inr k ↦ version_of q r p.0 n.0 k.0 p.1 n.1 k.1
                    (sym (ap (λ k. version_row_of k (Some n.0)) k.1) ∙ at_n)
              ]
        ]
  ]

  pub version_told : (q : Text) → at kind.KvVersion q ≡ secret_rows secrets kind.KvVersion q
  version_told q = both_ways _ _ (version_there q) (version_back q)
