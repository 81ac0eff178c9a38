-- The rows of a secret's versions, as they are listed.
use Rattle.std.proofs.Common.{◌≡◌, ◌≤◌, ◌==◌, ◌&&◌, ◌∷◌, ◌++◌, if◌then◌else◌, [], ℕ, List, map, All, nat_eq, Bool, true}
use Rattle.records.specs.Words.{false, cond, Option, Some, None, option_map, option_and_then, T, nat_cmp, is_lt}
use Rattle.records.specs.Words.{eq_by_cmp, nat_list_cmp_total, slice_cmp-IsAntisymmetric, nat_cmp-IsAntisymmetric}
use Rattle.records.specs.Words.{is_sorted, same_entries, below_all, starts_with, refl, sym, ◌∙◌, ap, subst, arith}
use Rattle.records.specs.Words.{eqb-true, false_from_ne_true, false≢true, All-nil, All-cons, All-head, All-tail}
use Rattle.records.specs.Words.{none-some, Text, text_cmp, same, same_true, same_self, same-text_cmp, greatest_version}
use Rattle.records.specs.Words.{get, Key, Version, Broker, Forms, SoundSecrets, listed-sorted, find-listed, of_secrets}
use Rattle.records.specs.Words.{Tells, version_in_range, version_row, padded, version_of_digits, version_row_of}
use Rattle.records.specs.Words.{version_at, version_key, eqb_self, split-lacking, line_feed, split_once, lacks}
use Rattle.records.specs.Words.{table_of, Rows, after_prefix}
use Rattle.std.specs.FinMap as fin
use Rattle.broker_types.specs.TestLaws.{less_apart, T_left, T_right}
use Rattle.records.specs.declared.kind.Kind.TheVariants as kind
use Rattle.kv2.specs.Words.{Row, IsNumbered, AreVersions, version_entry, versions_prefix, Versions}
use Rattle.records.specs.TableLaws.{eq-nat_cmp}
use Rattle.records.specs.DigitLaws.{wide}
use Rattle.kv2.proofs.Digits.{KeyLaws, name_lacks, same_digits}
use Rattle.kv2.proofs.SecretsTold.{version_rows}
use Rattle.kv2.proofs.VersionNames.{starts-name, same-parts}
use Rattle.kv2.proofs.VersionRows.{at_parts, by_parts}

-- ---- what holds of each version holds of each entry

none_below : (n : ℕ) (es : List (ℕ × Version)) → T (below_all nat_cmp n es) → fin.find nat_cmp n es ≡ None
none_below n [] h = refl
none_below n (e ∷ es) h =
    ap (λ b. cond b (Some e.1) (fin.find nat_cmp n es)) (less_apart (nat_cmp n e.0) (T_left _ _ h))
    ∙ none_below n es (T_right _ _ h)

each_found : (P : ℕ × Version → Type 0) (es : List (ℕ × Version)) → T (is_sorted nat_cmp es)
    → ((n : ℕ) (v : Version) → fin.find nat_cmp n es ≡ Some v → P (n, v)) → All P es
each_found P [] s h = All-nil P
each_found P (e ∷ es) s h =
    All-cons P e es (h e.0 e.1
    (ap (λ b. cond b (Some e.1) (fin.find nat_cmp e.0 es)) (eq-nat_cmp e.0 e.0 ∙ eqb_self e.0)))
    (each_found P es (T_right _ _ s)
    (λ n v is. h n v (ap (λ b. cond b (Some e.1) (fin.find nat_cmp n es)) (apart n v is) ∙ is)))
  where
    apart : (n : ℕ) (v : Version) → fin.find nat_cmp n es ≡ Some v → eq_by_cmp nat_cmp n e.0 ≡ false
    apart n v is = false_from_ne_true _ (λ met.
        let one : n ≡ e.0 = eqb-true n e.0 (sym (eq-nat_cmp n e.0) ∙ met) in
        none-some v (sym (none_below e.0 es (T_left _ _ s)) ∙ ap (λ m. fin.find nat_cmp m es) (sym one) ∙ is))

pub each_version : (P : ℕ × Version → Type 0) (vs : Versions)
    → ((n : ℕ) (v : Version) → fin.get vs n ≡ Some v → P (n, v)) → All P (fin.entries vs)
each_version P vs h = each_found P (fin.entries vs) (fin.entries_sorted vs)
    (λ n v is. h n v (fin.get-entries vs n ∙ is))

-- ---- the entries of versions by their keys

abbrev IsFew : ℕ × Version → Type 0
IsFew e = e.0 ≤ greatest_version

-- the row of the version whose digits come second
abbrev row_in : Versions → Text × Text → Option Row
row_in vs p = option_and_then (λ n. option_map version_row (fin.get vs n)) (version_of_digits p.1)

module _ (laws : KeyLaws) (name : Text) where
  abbrev keyed : List (ℕ × Version) → List (Text × Row)
  keyed es = map (version_entry name) es

  key_order : (m n : ℕ) → m ≤ greatest_version → n ≤ greatest_version
      → text_cmp (version_key name m) (version_key name n) ≡ nat_cmp m n
  key_order m n g h = after_prefix name (line_feed ∷ padded m) (line_feed ∷ padded n)
      ∙ laws.order m n (wide m g) (wide n h)

  below-keyed : (n : ℕ) (es : List (ℕ × Version)) → n ≤ greatest_version → All IsFew es
      → below_all text_cmp (version_key name n) (keyed es) ≡ below_all nat_cmp n es
  below-keyed n [] g h = refl
  below-keyed n (e ∷ es) g h = λ i. is_lt (key_order n e.0 g (All-head IsFew e es h) i)
      && below-keyed n es g (All-tail IsFew e es h) i

  sorted-keyed : (es : List (ℕ × Version)) → All IsFew es → is_sorted text_cmp (keyed es) ≡ is_sorted nat_cmp es
  sorted-keyed [] h = refl
  sorted-keyed (e ∷ es) h =
      λ i. below-keyed e.0 es (All-head IsFew e es h) (All-tail IsFew e es h) i
      && sorted-keyed es (All-tail IsFew e es h) i

  -- a key of none of them
  find_none : (q : Text) (es : List (ℕ × Version)) → All IsFew es
      → ((n : ℕ) → n ≤ greatest_version → same q (version_key name n) ≡ false)
      → fin.find text_cmp q (keyed es) ≡ None
  find_none q [] s h = refl
  find_none q (e ∷ es) s h =
      ap (λ b. cond b (Some (version_row e.1)) (fin.find text_cmp q (keyed es)))
      (sym (same-text_cmp q (version_key name e.0)) ∙ h e.0 (All-head IsFew e es s))
      ∙ find_none q es (All-tail IsFew e es s) h

  -- the key of a number
  find_number : (q : Text) (m : ℕ) (es : List (ℕ × Version)) → All IsFew es
      → ((n : ℕ) → n ≤ greatest_version → same q (version_key name n) ≡ (m == n))
      → fin.find text_cmp q (keyed es) ≡ option_map version_row (fin.find nat_cmp m es)
  find_number q m [] s h = refl
  find_number q m (e ∷ es) s h =
      ap (λ b. cond b (Some (version_row e.1)) (fin.find text_cmp q (keyed es)))
      (sym (same-text_cmp q (version_key name e.0)) ∙ h e.0 (All-head IsFew e es s) ∙ sym (eq-nat_cmp m e.0))
      ∙ ap (cond (eq_by_cmp nat_cmp m e.0) (Some (version_row e.1))) (find_number q m es (All-tail IsFew e es s) h)
      ∙ chosen (eq_by_cmp nat_cmp m e.0) (fin.find nat_cmp m es)
    where
      chosen : (b : Bool) (o : Option Version) → cond b (Some (version_row e.1)) (option_map version_row o)
          ≡ option_map version_row (cond b (Some e.1) o)
      chosen true o = refl
      chosen false o = refl

  module _ (vs : Versions) (few : All IsFew (fin.entries vs)) (lack : lacks line_feed name ≡ true) where
    at_digits : (p : Text × Text) → lacks line_feed p.0 ≡ true → p.0 ≡ name
        → fin.find text_cmp (p.0 ++ line_feed ∷ p.1) (keyed (fin.entries vs)) ≡ row_in vs p
    at_digits p front is =
        elim (version_of_digits p.1) as (λ t. version_of_digits p.1 ≡ t
        → fin.find text_cmp (p.0 ++ line_feed ∷ p.1) (keyed (fin.entries vs))
        ≡ option_and_then (λ n. option_map version_row (fin.get vs n)) t) [
          | None ↦ λ e. find_none (p.0 ++ line_feed ∷ p.1) (fin.entries vs) few (λ n small. parts n
              ∙ false_from_ne_true _
              (λ s. none-some n (sym e ∙ ap version_of_digits (same_true p.1 (padded n) s) ∙ laws.told n small)))
          | Some m ↦ λ e.
              let digits = laws.exact p.1 m e in
              find_number (p.0 ++ line_feed ∷ p.1) m (fin.entries vs) few (λ n small. parts n
              ∙ ap (λ z. same z (padded n)) digits.1 ∙ same_digits laws m n (wide m digits.0) (wide n small))
              ∙ ap (option_map version_row) (sym (fin.get-entries vs m))
        ] refl
      where
        parts : (n : ℕ) → same (p.0 ++ line_feed ∷ p.1) (version_key name n) ≡ same p.1 (padded n)
        parts n = same-parts line_feed p.0 p.1 name (padded n) front lack
            ∙ ap (λ b. b && same p.1 (padded n)) (ap (λ z. same z name) is ∙ same_self name)

    find-keyed : (q : Text) → fin.find text_cmp q (keyed (fin.entries vs))
        ≡ (if starts_with nat_eq q (versions_prefix name) then at_parts (row_in vs) q else None)
    find-keyed q =
        elim (starts_with nat_eq q (versions_prefix name)) as (λ b. starts_with nat_eq q (versions_prefix name) ≡ b
        → fin.find text_cmp q (keyed (fin.entries vs)) ≡ (if b then at_parts (row_in vs) q else None)) [
          | true ↦ λ s. by_parts q (λ o. fin.find text_cmp q (keyed (fin.entries vs)) ≡ option_and_then (row_in vs) o)
              (λ none. find_none q (fin.entries vs) few (λ n _. false_from_ne_true _ (λ g.
              none-some _ (sym none ∙ ap (split_once line_feed) (same_true q (version_key name n) g)
              ∙ split-lacking line_feed name (padded n) lack))))
              (λ p _ is front. ap (λ z. fin.find text_cmp z (keyed (fin.entries vs))) is
              ∙ at_digits p front (same_true p.0 name
              (sym (ap (λ z. starts_with nat_eq z (versions_prefix name)) is
              ∙ starts-name line_feed p.0 p.1 name front lack) ∙ s)))
          | false ↦ λ s. find_none q (fin.entries vs) few (λ n _. false_from_ne_true _ (λ g.
              false≢true (sym s ∙ ap (λ z. starts_with nat_eq z (versions_prefix name))
              (same_true q (version_key name n) g)
              ∙ starts-name line_feed name (padded n) name lack lack ∙ same_self name)))
        ] refl

-- what is listed under a name is its versions, in the order of their numbers
pub versions_listed : (laws : KeyLaws) (forms : Forms) (b : Broker) → SoundSecrets forms b.secrets → (rows : Rows)
    → Tells of_secrets (table_of rows) b
    → (name : Text) (k : Key) → get b.secrets name ≡ Some k → AreVersions rows name (fin.entries k.versions)
versions_listed laws forms b sound rows told name k here = record {
  each = each_version IsNumbered k.versions (λ n v e. record {
    number = number n v e;
    in_range = version_in_range forms k n v ((sound name k here).versions n v e);
  });
  entries = same_entries text_cmp nat_list_cmp_total (slice_cmp-IsAntisymmetric nat_cmp-IsAntisymmetric) _ _
      (listed-sorted kind.KvVersion (versions_prefix name) rows)
      (subst T (sym (sorted-keyed laws name (fin.entries k.versions) few)) (fin.entries_sorted k.versions))
      (λ q. find-listed kind.KvVersion (versions_prefix name) rows q
      ∙ ap (λ o. cond (starts_with nat_eq q (versions_prefix name)) o None)
      (told kind.KvVersion q refl ∙ version_rows b q)
      ∙ within q ∙ sym (find-keyed laws name k.versions few lack q));
}
  where
    number : (n : ℕ) (v : Version) → fin.get k.versions n ≡ Some v → n ≤ greatest_version
    number n v e =
        let last : n ≤ k.current = ((sound name k here).versions n v e).last in
        let current : k.current ≤ greatest_version = (sound name k here).current in
        omega (arith, last, current)

    few : All IsFew (fin.entries k.versions)
    few = each_version IsFew k.versions number

    lack : lacks line_feed name ≡ true
    lack = name_lacks laws name (sound name k here).name

    within : (q : Text) → cond (starts_with nat_eq q (versions_prefix name)) (at_parts (version_at b.secrets) q) None
        ≡ (if starts_with nat_eq q (versions_prefix name) then at_parts (row_in k.versions) q else None)
    within q =
        elim (starts_with nat_eq q (versions_prefix name)) as (λ v. starts_with nat_eq q (versions_prefix name) ≡ v
        → cond v (at_parts (version_at b.secrets) q) None ≡ (if v then at_parts (row_in k.versions) q else None)) [
          | true ↦ λ s. by_parts q
              (λ o. option_and_then (version_at b.secrets) o ≡ option_and_then (row_in k.versions) o) (λ none. refl)
              (λ p _ is front. ap (λ o. version_row_of o (version_of_digits p.1))
              (ap (get b.secrets) (same_true p.0 name
              (sym (ap (λ z. starts_with nat_eq z (versions_prefix name)) is
              ∙ starts-name line_feed p.0 p.1 name front lack) ∙ s)) ∙ here))
          | false ↦ λ _. refl
        ] refl
