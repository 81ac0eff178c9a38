-- A row that breaks a rule is none of sound rows: what single rows say.
use Rattle.std.proofs.Common.{◌≡◌, ◌≢◌, ◌<◌, ◌≤◌, ◌++◌, ◌∷◌, ◌==◌, [], ℕ, List, length, All, Bool, true, Some, None, ap}
use Rattle.broker_model.specs.Words.{⊤, list_all, refl, sym, ◌∙◌, subst, get_or, le_trans, and_from, le-leb, lt-ltb}
use Rattle.broker_model.specs.Words.{false≢true, All-head, All-tail, same_Some, Text, same, most_custom_metadata}
use Rattle.broker_model.specs.Words.{longest_custom_name, longest_custom_value, is_name, Waiting, IsCustomPair}
use Rattle.broker_model.specs.Words.{IsPathText, IsShortText, IsTokenText, forms, Kind, Row, digits_after-padded, wide}
use Rattle.broker_model.specs.Words.{KeyEntry, TokenEntry, IsTokenInRange, IsLeaseInRange, IsKeyInRange}
use Rattle.broker_model.specs.Words.{IsVersionInRange, IsWaitingInRange, IsSomeIn, number, entry_row, accessor_row}
use Rattle.broker_model.specs.Words.{cubby_row, lease_row, credential_row, key_entry_row, old_key_row, version_row}
use Rattle.broker_model.specs.Words.{waiting_row, policy_row, entry_row-injective, cubby_row-injective}
use Rattle.broker_model.specs.Words.{lease_row-injective, key_entry_row-injective, version_row-injective}
use Rattle.broker_model.specs.Words.{waiting_row-injective, policy_row-injective, padded, digits_after, name_lacks}
use Rattle.broker_model.specs.Words.{slash, line_feed, split_once, split-lacking, Table}
use Rattle.records.specs.declared.holder.Holder.TheVariants as holder
use Rattle.records.specs.declared.kind.Kind.TheVariants as kind
use Rattle.soundness.specs.Words.{IsInFormat, IsVersionKey, IsKeyOf, BreaksText, IsKeyRow, BreaksNumber, BreaksUses}
use Rattle.soundness.specs.Words.{BreaksParent, BreaksOwner, BreaksAccessor, BreaksCredential, IsOf, Named, IsNamedBy}
use Rattle.soundness.specs.Words.{Owned, Held, IsCredentialOf, AreSound, is_fit, are_fit}
use Rattle.soundness.proofs.ReadLemmas.{owner_of}
use Rattle.soundness.proofs.TokenFacts.{had_identifier}

-- ---- records that rows tell

-- what holds of the record that a row is made of holds of each that it may be made of
one_record : {X : Type 0} (row_of : X → Row) (R : X → Type 0)
    → ((x y : X) → R x → R y → row_of x ≡ row_of y → x ≡ y) → (P : X → Type 0) (row : Row)
    → IsOf row_of (λ x. R x × P x) row → (x : X) → R x → row ≡ row_of x → P x
one_record row_of R one P row good x range is =
    subst P (one good.0 x good.1.0 range (sym good.2 ∙ is)) good.1.1

owned_one : (e f : Owned) → IsShortText e.1 → IsShortText f.1 → cubby_row e.0 e.1 ≡ cubby_row f.0 f.1 → e ≡ f
owned_one e f h k is = let one = cubby_row-injective e.0 f.0 e.1 f.1 h k is in λ i. (one.0 i, one.1 i)

held_one : (h i : Held) → IsLeaseInRange h.1 → IsLeaseInRange i.1 → lease_row h.0 h.1 ≡ lease_row i.0 i.1 → h ≡ i
held_one h i a b is = let one = lease_row-injective h.0 i.0 h.1 i.1 a b is in λ j. (one.0 j, one.1 j)

-- the row of an accessor says what it names
is_of_token : Row → Bool
is_of_token r = same r.body (accessor_row [] holder.Token).body

pub not_both : (t u : Text) → accessor_row t holder.Token ≡ accessor_row u holder.WrappingToken → ⊥
unfolding same number is_of_token
not_both t u is = false≢true (sym (ap is_of_token is))

pub named_one : (n m : Named) → ⊤ → ⊤ → accessor_row n.0 n.1 ≡ accessor_row m.0 m.1 → n ≡ m
named_one (t, holder.Token) (u, holder.Token) a b is = ap (λ x. (x, holder.Token)) (owner_of _ _ is)
named_one (t, holder.Token) (u, holder.WrappingToken) a b is = absurd (not_both t u is)
named_one (t, holder.WrappingToken) (u, holder.Token) a b is = absurd (not_both u t (sym is))
named_one (t, holder.WrappingToken) (u, holder.WrappingToken) a b is =
    ap (λ x. (x, holder.WrappingToken)) (owner_of _ _ is)

leased_one : (x y : Text) → ⊤ → ⊤ → credential_row x ≡ credential_row y → x ≡ y
leased_one x y a b is = owner_of _ _ is

-- a key of a version says which
pub version_parts : (q n m : Text) (a b : ℕ) → IsVersionKey q n a → IsVersionKey q m b → (n ≡ m) × (a ≡ b)
version_parts q n m a b k l =
    let split : ◌≡◌ {A = Text × Text} (n, padded a) (m, padded b) =
    same_Some _ _
    (sym (split-lacking line_feed n (padded a) k.name_lacks) ∙ ap (split_once line_feed) (sym k.is_key ∙ l.is_key)
    ∙ split-lacking line_feed m (padded b) l.name_lacks) in (
      ap (λ (p : Text × Text). p.0) split,
      sym (digits_after-padded a k.wide) ∙ ap (λ (p : Text × Text). digits_after 0 p.1) split
          ∙ digits_after-padded b l.wide,
    )

-- ---- custom metadata

pub list_all_from : {X : Type 0} (p : X → Bool) (xs : List X) → All (λ x. p x ≡ true) xs → list_all p xs ≡ true
list_all_from p [] all = refl
list_all_from p (x ∷ xs) all =
    and_from (p x) (list_all p xs) (All-head (λ x. p x ≡ true) x xs all)
    (list_all_from p xs (All-tail (λ x. p x ≡ true) x xs all))

pair_fits : (e : Text × Text) → IsCustomPair e.0 e.1 → is_fit e ≡ true
pair_fits e good =
    and_from _ _ (lt-ltb 0 (length e.0) good.name_given)
    (and_from _ _ (le-leb (length e.0) longest_custom_name good.name_short)
    (le-leb (length e.1) longest_custom_value good.value_short))

metadata_fits : (es : List (Text × Text)) → length es ≤ most_custom_metadata → All (λ e. IsCustomPair e.0 e.1) es
    → are_fit es ≡ true
metadata_fits es few each =
    and_from _ _ (le-leb (length es) most_custom_metadata few)
    (list_all_from is_fit es (λ k d h. pair_fits _ (each k d h)))

-- ---- formats of keys

format_of : Row → ℕ
format_of r = get_or r.body 0 0

old_or_new : (j k : KeyEntry) → old_key_row j ≡ key_entry_row k → ⊥
unfolding format_of
old_or_new j k is = absurd (false≢true (ap (λ r. format_of r == 2) is))

-- ---- sound rows

module _ (rows : Table) (s : AreSound rows) where
  pub in_format : (k : Kind) (q : Text) (row : Row) → rows k q ≡ Some row → IsInFormat k row
  in_format kind.Clock q row is = let x = s.each kind.Clock q row is in (x.0, x.1.1, x.2)
  in_format kind.Used q row is = (s.each kind.Used q row is).2
  in_format kind.Token q row is = let x = s.each kind.Token q row is in (x.0, x.1.in_range, x.2)
  in_format kind.Accessor q row is = let x = s.each kind.Accessor q row is in (x.0, tt, x.2)
  in_format kind.Cubby q row is = let x = s.each kind.Cubby q row is in (x.0, x.1.object.short, x.2)
  in_format kind.Lease q row is = let x = s.each kind.Lease q row is in (x.0, x.1.in_range, x.2)
  in_format kind.Credential q row is = let x = s.each kind.Credential q row is in (x.0, tt, x.2)
  in_format kind.KvKey q row is = let x = s.each kind.KvKey q row is in (x.0, x.1.in_range, x.2)
  in_format kind.KvVersion q row is = let x = s.each kind.KvVersion q row is in (x.0, x.1.in_range, x.2)
  in_format kind.Waiting q row is = let x = s.each kind.Waiting q row is in (x.0, x.1.in_range, x.2)
  in_format kind.Mount q row is = let x = s.each kind.Mount q row is in (x.0, x.1.max_versions, x.2)
  in_format kind.Policy q row is = let x = s.each kind.Policy q row is in (x.0, x.1.short, x.2)
  in_format kind.Role q row is =
      let x = s.each kind.Role q row is in (x.0, record { ttl = x.1.ttl; max_ttl = x.1.max_ttl }, x.2)

  pub of_format_2 : (q : Text) (row : Row) → rows kind.KvKey q ≡ Some row → (j : KeyEntry) → row ≡ old_key_row j → ⊥
  of_format_2 q row is j old = let x = s.each kind.KvKey q row is in old_or_new j x.0 (sym old ∙ x.2)

  version_key_at : (q : Text) (row : Row) (is : rows kind.KvVersion q ≡ Some row)
      → IsVersionKey q (s.each kind.KvVersion q row is).1.name (s.each kind.KvVersion q row is).1.number
  version_key_at q row is =
      let good = (s.each kind.KvVersion q row is).1 in
      let key = s.each kind.KvKey good.name (key_entry_row good.key) good.key_row in
      record {
        name_lacks = name_lacks good.name key.1.name;
        wide = wide good.number (le_trans good.last good.key_in_range.current);
        is_key = good.is_key;
      }

  pub token_key : (q : Text) (row : Row) → rows kind.Token q ≡ Some row → IsTokenText q
  token_key q row is =
      let i = s.identifiers.1 kind.Token q row is in
      (i.0, had_identifier rows s.identifiers.0 (kind.Token, q) i.0 i.2, i.1)

  pub is_key : (k : Kind) (q : Text) (row : Row) → rows k q ≡ Some row → IsKeyOf k q row.owner
  is_key kind.Clock q row is = (s.each kind.Clock q row is).1.0
  is_key kind.Used q row is = (s.each kind.Used q row is).1
  is_key kind.Token q row is = token_key q row is
  is_key kind.Accessor q row is =
      had_identifier rows s.identifiers.0 (kind.Accessor, q) q (s.identifiers.1 kind.Accessor q row is)
  is_key kind.Cubby q row is =
      let x = s.each kind.Cubby q row is in (
        x.1.path,
        x.1.key ∙ ap (λ (t : Text). t ++ slash ∷ x.1.path) (sym (owner_of _ _ x.2)),
        x.1.is_path_text,
      )
  is_key kind.Lease q row is = (s.each kind.Lease q row is).1.name
  is_key kind.Credential q row is =
      had_identifier rows s.identifiers.0 (kind.Credential, q) q (s.identifiers.1 kind.Credential q row is)
  is_key kind.KvKey q row is = (s.each kind.KvKey q row is).1.name
  is_key kind.KvVersion q row is =
      let good = (s.each kind.KvVersion q row is).1 in (good.name, good.number, version_key_at q row is)
  is_key kind.Waiting q row is =
      let i = s.identifiers.1 kind.Waiting q row is in
      (i.0, had_identifier rows s.identifiers.0 (kind.Waiting, q) i.0 i.2, i.1)
  is_key kind.Mount q row is = (s.each kind.Mount q row is).1.mount_name
  is_key kind.Policy q row is =
      let good = (s.each kind.Policy q row is).1 in (good.policy_name, good.not_root)
  is_key kind.Role q row is =
      let good = (s.each kind.Role q row is).1 in
      record {
        mount = good.mount;
        role = good.role;
        mount_name = good.mount_name;
        role_name = good.role_name;
        parts = good.parts;
      }

  -- ---- what records say

  token_says : (P : TokenEntry → Type 0) (q : Text) (row : Row) (is : rows kind.Token q ≡ Some row)
      → P (s.each kind.Token q row is).0 → (x : TokenEntry) → IsTokenInRange x → row ≡ entry_row x → P x
  token_says P q row is good =
      let x = s.each kind.Token q row is in
      one_record entry_row IsTokenInRange entry_row-injective P row (x.0, (x.1.in_range, good), x.2)

  waiting_says : (P : Waiting → Type 0) (q : Text) (row : Row) (is : rows kind.Waiting q ≡ Some row)
      → P (s.each kind.Waiting q row is).0 → (w : Waiting) → IsWaitingInRange w → row ≡ waiting_row w → P w
  waiting_says P q row is good =
      let x = s.each kind.Waiting q row is in
      one_record waiting_row IsWaitingInRange waiting_row-injective P row (x.0, (x.1.in_range, good), x.2)

  lease_says : (P : Held → Type 0) (q : Text) (row : Row) (is : rows kind.Lease q ≡ Some row)
      → P (s.each kind.Lease q row is).0 → (h : Held) → IsLeaseInRange h.1 → row ≡ lease_row h.0 h.1 → P h
  lease_says P q row is good =
      let x = s.each kind.Lease q row is in
      one_record (λ (h : Held). lease_row h.0 h.1) (λ h. IsLeaseInRange h.1) held_one P row
      (x.0, (x.1.in_range, good), x.2)

  object_says : (P : Owned → Type 0) (q : Text) (row : Row) (is : rows kind.Cubby q ≡ Some row)
      → P (s.each kind.Cubby q row is).0 → (e : Owned) → IsShortText e.1 → row ≡ cubby_row e.0 e.1 → P e
  object_says P q row is good =
      let x = s.each kind.Cubby q row is in
      one_record (λ (e : Owned). cubby_row e.0 e.1) (λ e. IsShortText e.1) owned_one P row
      (x.0, (x.1.object.short, good), x.2)

  key_is : (name : Text) (j k : KeyEntry) → IsKeyRow rows name j → IsKeyRow rows name k → j ≡ k
  key_is name j k at_j at_k =
      key_entry_row-injective j k at_j.0 at_k.0 (same_Some _ _ (sym at_j.1 ∙ at_k.1))

  pub no_bad_text : (k : Kind) (q : Text) (row : Row) → rows k q ≡ Some row → BreaksText k row → ⊥
  no_bad_text kind.Token q row is bad =
      let x = s.each kind.Token q row is in
      bad.1.1 (token_says (λ x. All (λ p. is_name p ≡ true) x.policies) q row is x.1.policy_names bad.0 bad.1.0 bad.2)
  no_bad_text kind.Cubby q row is bad =
      let x = s.each kind.Cubby q row is in
      bad.1.1 (object_says (λ e. forms.is_object e.1 ≡ true) q row is x.1.object.object bad.0 bad.1.0 bad.2)
  no_bad_text kind.KvKey q row is bad =
      let x = s.each kind.KvKey q row is in
      bad.1.1 (one_record key_entry_row IsKeyInRange key_entry_row-injective
      (λ k. are_fit k.custom_metadata ≡ true) row
      (x.0, (x.1.in_range, metadata_fits x.0.custom_metadata x.1.few_metadata x.1.metadata), x.2) bad.0 bad.1.0 bad.2)
  no_bad_text kind.KvVersion q row is bad =
      let x = s.each kind.KvVersion q row is in
      bad.1.1 (one_record version_row IsVersionInRange version_row-injective
      (λ v. IsSomeIn (λ t. forms.is_object t ≡ true) v.secret) row
      (x.0, (x.1.in_range, λ t e. (x.1.object t e).object), x.2) bad.0 bad.1.0 bad.2)
  no_bad_text kind.Waiting q row is bad =
      let x = s.each kind.Waiting q row is in
      bad.1.1 (waiting_says (λ w. IsPathText w.path) q row is x.1.path bad.0 bad.1.0 bad.2)
  no_bad_text kind.Policy q row is bad =
      let x = s.each kind.Policy q row is in
      bad.1.1 (one_record policy_row IsShortText policy_row-injective (λ p. forms.is_policy p ≡ true) row
      (x.0, (x.1.short, x.1.policy), x.2) bad.0 bad.1.0 bad.2)
  no_bad_text _ q row is bad = absurd bad

  pub no_bad_number : (k : Kind) (q : Text) (row : Row) → rows k q ≡ Some row → BreaksNumber rows k q row → ⊥
  no_bad_number kind.Lease q row is bad =
      let x = s.each kind.Lease q row is in
      bad.1.1 (lease_says (λ h. h.1.ttl ≤ h.1.max_ttl) q row is x.1.ttl bad.0 bad.1.0 bad.2)
  no_bad_number kind.KvVersion q row is bad =
      let good = (s.each kind.KvVersion q row is).1 in
      let parts = version_parts q good.name bad.0 good.number bad.1 (version_key_at q row is) bad.3 in
      let key : good.key ≡ bad.2 = key_is bad.0 good.key bad.2
      (good.key_in_range, ap (rows kind.KvKey) (sym parts.0) ∙ good.key_row) bad.4 in
      bad.5 (
        subst (λ n. 0 < n) parts.1 good.first,
        subst (λ n. n ≤ bad.2.current) parts.1 (subst (λ (k : KeyEntry). good.number ≤ k.current) key good.last),
      )
  no_bad_number kind.Waiting q row is bad =
      let x = s.each kind.Waiting q row is in
      bad.1.1 (waiting_says (λ w. 0 < w.ttl) q row is x.1.waits bad.0 bad.1.0 bad.2)
  no_bad_number _ q row is bad = absurd bad

  pub no_spent : (k : Kind) (q : Text) (row : Row) → rows k q ≡ Some row → BreaksUses k row → ⊥
  no_spent kind.Token q row is bad =
      let x = s.each kind.Token q row is in
      token_says (λ x. x.uses_left ≢ Some 0) q row is x.1.unspent bad.0 bad.1.0 bad.2 bad.1.1
  no_spent _ q row is bad = absurd bad

  -- ---- other rows that a row needs

  pub no_lost_parent : (k : Kind) (q : Text) (row : Row) → rows k q ≡ Some row → BreaksParent rows k row → ⊥
  no_lost_parent kind.Token q row is bad =
      let x = s.each kind.Token q row is in
      token_says (λ x. (p : Text) → x.parent ≡ Some p → rows kind.Token p ≢ None) q row is x.1.parent bad.0 bad.1.0
      bad.2 bad.1.1.0 bad.1.1.1 bad.1.1.2
  no_lost_parent _ q row is bad = absurd bad

  pub no_lost_owner : (k : Kind) (q : Text) (row : Row) → rows k q ≡ Some row → BreaksOwner rows k q row → ⊥
  no_lost_owner kind.Accessor q row is bad =
      let x = s.each kind.Accessor q row is in
      bad.1.1 (one_record (λ (n : Named). accessor_row n.0 n.1) (λ _. ⊤) named_one (IsNamedBy rows q) row
      (x.0, (tt, x.1), x.2) bad.0 tt bad.2)
  no_lost_owner kind.Cubby q row is bad =
      let x = s.each kind.Cubby q row is in
      object_says (λ e. rows kind.Token e.0 ≢ None) q row is x.1.owner bad.0 bad.1.0 bad.2 bad.1.1
  no_lost_owner kind.Lease q row is bad =
      let x = s.each kind.Lease q row is in
      lease_says (λ h. rows kind.Token h.0 ≢ None) q row is x.1.owner bad.0 bad.1.0 bad.2 bad.1.1
  no_lost_owner kind.Credential q row is bad =
      let x = s.each kind.Credential q row is in
      bad.1.1 (one_record credential_row (λ _. ⊤) leased_one (IsCredentialOf rows q) row
      (x.0, (tt, x.1), x.2) bad.0 tt bad.2)
  no_lost_owner kind.KvVersion q row is bad =
      let good = (s.each kind.KvVersion q row is).1 in
      let parts = version_parts q good.name bad.0 good.number bad.1 (version_key_at q row is) bad.2 in
      bad.3 good.key (good.key_in_range, ap (rows kind.KvKey) (sym parts.0) ∙ good.key_row)
  no_lost_owner _ q row is bad = absurd bad

  pub no_lost_accessor : (k : Kind) (q : Text) (row : Row) → rows k q ≡ Some row → BreaksAccessor rows k q row → ⊥
  no_lost_accessor kind.Token q row is bad =
      let x = s.each kind.Token q row is in
      bad.1.1 (token_says (λ x. rows kind.Accessor x.accessor ≡ Some (accessor_row q holder.Token)) q row is
      x.1.accessor bad.0 bad.1.0 bad.2)
  no_lost_accessor kind.Waiting q row is bad =
      let x = s.each kind.Waiting q row is in
      bad.1.1 (waiting_says (λ w. rows kind.Accessor w.accessor ≡ Some (accessor_row q holder.WrappingToken)) q row is
      x.1.accessor bad.0 bad.1.0 bad.2)
  no_lost_accessor _ q row is bad = absurd bad

  pub no_lost_credential : (k : Kind) (q : Text) (row : Row) → rows k q ≡ Some row → BreaksCredential rows k q row → ⊥
  no_lost_credential kind.Lease q row is bad =
      let x = s.each kind.Lease q row is in
      bad.1.1 (lease_says (λ h. rows kind.Credential h.1.credential ≡ Some (credential_row q)) q row is x.1.credential
      bad.0 bad.1.0 bad.2)
  no_lost_credential _ q row is bad = absurd bad
