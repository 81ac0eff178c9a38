-- Versions changed: one after another, and their rows as those of the next broker.
use Rattle.std.proofs.Common.{◌≡◌, ◌<◌, ◌≤◌, ◌^◌, ◌==◌, ◌&&◌, ◌||◌, ◌∷◌, ◌++◌, if◌then◌else◌, [], ℕ, List, Bool, true}
use Rattle.records.specs.Words.{false, Option, Some, None, option_map, refl, sym, ◌∙◌, ap, subst, inl, inr, eqb-true}
use Rattle.records.specs.Words.{false≢true, or_cases, or_right, false_from_ne_true, list_any-append, same_Some}
use Rattle.records.specs.Words.{or-false, Text, same, same_self, same_true, greatest_version, Map, get, change}
use Rattle.records.specs.Words.{get-change, mapped, Key, Version, Broker, Forms, SoundSecrets, IsSecretName}
use Rattle.records.specs.Words.{kind_number, of_secrets, Tells, IsVersionInRange, key_row, version_row, padded}
use Rattle.records.specs.Words.{version_key, version_at, version_row_of, version_of_digits, line_feed, eqb_self, Table}
use Rattle.records.specs.Words.{with_row, mapped_unseen, unseen}
use Rattle.std.specs.FinMap as fin
use Rattle.records.specs.declared.kind.Kind.TheVariants as kind
use Rattle.kv2.specs.Words.{Row, HasVersion, IsReadableVersion, AreChanged, is_key_of, get-change_versions, version_of}
use Rattle.kv2.specs.Words.{with_changed, is_among}
use Rattle.kv2.proofs.Digits.{KeyLaws}
use Rattle.kv2.proofs.Found.{none_is, none_read, some_is, some_read}
use Rattle.kv2.proofs.Parts.{secrets_by}
use Rattle.kv2.proofs.SecretsTold.{key_rows, version_rows, version_row_at, small_number, has_version}
use Rattle.kv2.proofs.VersionRows.{at_parts, by_parts}

-- ---- one change after another

module _ (f : Version → Version) (name : Text) where
  -- nothing is changed
  pub changed_nothing : (t : Table) → AreChanged f [] name t t
  changed_nothing t = record {
    numbers = λ n h. absurd (false≢true h);
    readable = λ n h. absurd (false≢true h);
    versions = λ n v h _. absurd (false≢true h);
    others = λ k q _. refl;
  }

  -- what the rows have of a version, changed or not
  changed_at : (ns : List ℕ) (a b : Table) → AreChanged f ns name a b → (n : ℕ) (v : Option Version) (p : Bool)
      → is_key_of ns name (version_key name n) ≡ p → HasVersion a name n v
      → HasVersion b name n (if p then option_map f v else v)
  changed_at ns a b h n v true is has = h.versions n v is has
  changed_at ns a b h n v false is has = record {
    in_range = has.in_range;
    row = h.others kind.KvVersion (version_key name n) is ∙ has.row;
  }

  -- a version that could be read before changes can be read after them
  pub read_after : (ns : List ℕ) (a b : Table) → AreChanged f ns name a b → (n : ℕ) → IsReadableVersion a name n
      → IsReadableVersion b name n
  read_after ns a b h n has = (_, changed_at ns a b h n has.0 (is_key_of ns name (version_key name n)) refl has.1)

  -- a version that can be read after changes could be read before
  read_before : (ns : List ℕ) (a b : Table) → AreChanged f ns name a b → (n : ℕ) (p : Bool)
      → is_key_of ns name (version_key name n) ≡ p
      → IsReadableVersion b name n → IsReadableVersion a name n
  read_before ns a b h n true is _ = h.readable n is
  read_before ns a b h n false is has = (
    has.0,
    record {
      in_range = has.1.in_range;
      row = sym (h.others kind.KvVersion (version_key name n) is) ∙ has.1.row;
    },
  )

  pub changed_more : ((v : Version) → f (f v) ≡ f v) → (ms : List ℕ) (m : ℕ) (a b c : Table) → AreChanged f ms name a b
      → AreChanged f (m ∷ []) name b c → AreChanged f (ms ++ m ∷ []) name a c
  changed_more twice ms m a b c first next = record {
    numbers = λ n h. elim (or_cases _ _ (sym (list_any-append (λ x. x == n) ms (m ∷ [])) ∙ h)) [
      | inl l ↦ first.numbers n l
      | inr r ↦ next.numbers n r
    ];
    readable = λ n h.
        let key = version_key name n in
        elim (or_cases _ _ (sym (list_any-append (λ x. same key (version_key name x)) ms (m ∷ [])) ∙ h)) [
          | inl l ↦ first.readable n l
          | inr r ↦ read_before ms a b first n (is_key_of ms name key) refl (next.readable n r)
        ];
    versions = λ n v h has.
        let key = version_key name n in
        let at = changed_at (m ∷ []) b c next n _ (is_key_of (m ∷ []) name key) refl
        (changed_at ms a b first n v (is_key_of ms name key) refl has) in
        subst (HasVersion c name n) (both v (is_key_of ms name key) (is_key_of (m ∷ []) name key)
        (sym (list_any-append (λ x. same key (version_key name x)) ms (m ∷ [])) ∙ h)) at;
    others = λ k q h.
        let apart = split_or (kind_number k == kind_number kind.KvVersion) (is_key_of ms name q)
        (is_key_of (m ∷ []) name q)
        (ap (λ z. (kind_number k == kind_number kind.KvVersion) && z)
        (sym (list_any-append (λ x. same q (version_key name x)) ms (m ∷ []))) ∙ h) in
        next.others k q apart.1 ∙ first.others k q apart.0;
  }
    where
      mapped_twice : (o : Option Version) → option_map f (option_map f o) ≡ option_map f o
      mapped_twice None = refl
      mapped_twice (Some v) = ap Some (twice v)

      both : (v : Option Version) (p q : Bool) → (p || q) ≡ true
          → (if q then option_map f (if p then option_map f v else v) else (if p then option_map f v else v))
          ≡ option_map f v
      both v true true h = mapped_twice v
      both v true false h = refl
      both v false true h = refl
      both v false false h = absurd (false≢true h)

      split_or : (k p q : Bool) → (k && (p || q)) ≡ false → ((k && p) ≡ false) × ((k && q) ≡ false)
      split_or true true q h = absurd (false≢true (sym h))
      split_or true false q h = (refl, h)
      split_or false p q h = (refl, refl)

  module _ (t : Table) (m : ℕ) (small : m < 2 ^ 64) where
    one_number : (n : ℕ) → is_among (m ∷ []) n ≡ true → n < 2 ^ 64
    one_number n h = subst (λ z. z < 2 ^ 64) (eqb-true m n (sym (or-false (m == n)) ∙ h)) small

    its_key : (q : Text) → is_key_of (m ∷ []) name q ≡ true → q ≡ version_key name m
    its_key q h = same_true q (version_key name m) (sym (or-false (same q (version_key name m))) ∙ h)

    -- a version that is not there
    pub missing_changed : t kind.KvVersion (version_key name m) ≡ None → AreChanged f (m ∷ []) name t t
    missing_changed none = record {
      numbers = one_number;
      readable = λ n h. (
        None,
        none_read IsVersionInRange version_row _
            (ap (t kind.KvVersion) (its_key (version_key name n) h) ∙ none),
      );
      versions = λ n v h has.
          let gone = none_is IsVersionInRange version_row _
          (ap (t kind.KvVersion) (its_key (version_key name n) h) ∙ none) v has in
          subst (HasVersion t name n) (gone ∙ sym (ap (option_map f) gone)) has;
      others = λ k q _. refl;
    }

    -- one that is there
    pub row_changed : (r : Row) (y w : Version) → t kind.KvVersion (version_key name m) ≡ Some r → IsVersionInRange y
        → r ≡ version_row y
        → ((v : Version) → IsVersionInRange v → r ≡ version_row v → w ≡ f v)
        → ((v : Version) → IsVersionInRange v → IsVersionInRange (f v))
        → AreChanged f (m ∷ []) name t (with_row t kind.KvVersion (version_key name m) (version_row w))
    row_changed r y w some range read reads keeps = record {
      numbers = one_number;
      readable = λ n h. (
        Some y,
        some_read IsVersionInRange version_row _ r y
            (ap (t kind.KvVersion) (its_key (version_key name n) h) ∙ some) range read,
      );
      versions = λ n v h has.
          let key = its_key (version_key name n) h in
          let x = some_is IsVersionInRange version_row _ r (ap (t kind.KvVersion) key ∙ some) v has in
          subst (HasVersion (with_row t kind.KvVersion (version_key name m) (version_row w)) name n)
          (sym (ap (option_map f) x.1)) (record {
            in_range = λ y e. subst IsVersionInRange (same_Some _ _ e) (keeps x.0 x.2);
            row = ap (λ b. if b then Some (version_row w) else t kind.KvVersion (version_key name n))
                (ap (λ z. same z (version_key name m)) key ∙ same_self (version_key name m))
                ∙ ap (λ z. Some (version_row z)) (reads x.0 x.2 x.3);
          });
      others = λ k q h. ap (λ b. if b then Some (version_row w) else t k q)
          (ap (λ z. (kind_number k == kind_number kind.KvVersion) && z) (sym (or-false (same q (version_key name m))))
          ∙ h);
    }

-- a key of one of the versions
pub key_is_among : (name : Text) (ms : List ℕ) (q : Text) → is_key_of ms name q ≡ true → (m : ℕ)
    × (is_among ms m ≡ true) × (q ≡ version_key name m)
key_is_among name [] q h = absurd (false≢true h)
key_is_among name (m ∷ ms) q h = elim (or_cases _ _ h) [
  | inl l ↦ (m, ap (λ b. b || is_among ms m) (eqb_self m), same_true q (version_key name m) l)
  | inr r ↦ let x = key_is_among name ms q r in (x.0, or_right (m == x.0) _ x.1, x.2)
]

-- ---- the rows of the next broker

module _ (s : Map Key) (name : Text) (f : Version → Version) (ns : List ℕ) where
  abbrev after : Map Key
  after = change s name (with_changed f ns)

  key-changed : (q : Text) → option_map key_row (get s q) ≡ option_map key_row (get after q)
  key-changed q = sym (ap (option_map key_row) (get-change s name (with_changed f ns) q)
      ∙ mapped_unseen key_row _ (unseen key_row (with_changed f ns) (λ k. refl) (same q name)) (get s q))

  -- the versions of the name
  pub versions_after : (n : ℕ) → version_of (get after name) n
      ≡ option_map (λ v. if is_among ns n then f v else v) (version_of (get s name) n)
  versions_after n =
      ap (λ o. version_of o n) (get-change s name (with_changed f ns) name)
      ∙ ap (λ b. version_of (option_map (λ k. if b then with_changed f ns k else k) (get s name)) n) (same_self name)
      ∙ inner (get s name)
    where
      inner : (o : Option Key) → version_of (option_map (with_changed f ns) o) n
          ≡ option_map (λ v. if is_among ns n then f v else v) (version_of o n)
      inner None = refl
      inner (Some k) = get-change_versions f (is_among ns) k.versions n

  still : {X : Type 0} (o : Option X) → option_map (λ x. x) o ≡ o
  still None = refl
  still (Some x) = refl

  among_is_key : (ms : List ℕ) (n : ℕ) → is_among ms n ≡ true → is_key_of ms name (version_key name n) ≡ true
  among_is_key [] n h = absurd (false≢true h)
  among_is_key (m ∷ ms) n h = elim (or_cases _ _ h) [
    | inl l ↦ ap (λ b. b || is_key_of ms name (version_key name n))
        (ap (λ z. same (version_key name n) (version_key name z)) (eqb-true m n l) ∙ same_self (version_key name n))
    | inr r ↦ or_right (same (version_key name n) (version_key name m)) _ (among_is_key ms n r)
  ]

  -- a key of none of these versions
  unchanged_at : KeyLaws → (q : Text) → is_key_of ns name q ≡ false
      → at_parts (version_at s) q ≡ at_parts (version_at after) q
  unchanged_at laws q apart =
      by_parts q (λ o. parts s o ≡ parts after o) (λ _. refl)
      (λ p _ is _.
      elim (same p.0 name) as (λ b. same p.0 name ≡ b → version_row_of (get s p.0) (version_of_digits p.1)
      ≡ version_row_of (option_map (λ k. if b then with_changed f ns k else k) (get s p.0)) (version_of_digits p.1)) [
        | false ↦ λ _. ap (λ o. version_row_of o (version_of_digits p.1)) (sym (still (get s p.0)))
        | true ↦ λ one. at_number p.1 (get s p.0) (λ n digits. false_from_ne_true _ (λ among.
            false≢true (sym apart ∙ ap (is_key_of ns name)
            (is ∙ (λ i. same_true p.0 name one i ++ line_feed ∷ digits i)) ∙ among_is_key ns n among)))
      ] refl
      ∙ ap (λ o. version_row_of o (version_of_digits p.1)) (sym (get-change s name (with_changed f ns) p.0)))
    where
      parts : Map Key → Option (Text × Text) → Option Row
      parts s None = None
      parts s (Some p) = version_at s p

      at_number : (d : Text) (o : Option Key) → ((n : ℕ) → d ≡ padded n → is_among ns n ≡ false)
          → version_row_of o (version_of_digits d) ≡ version_row_of (option_map (with_changed f ns) o)
          (version_of_digits d)
      at_number d o none =
          elim (version_of_digits d) as (λ t. version_of_digits d ≡ t
          → version_row_of o t ≡ version_row_of (option_map (with_changed f ns) o) t) [
            | None ↦ λ _. refl
            | Some n ↦ λ e. same_row o n (none n (laws.exact d n e).1)
          ] refl
        where
          same_row : (o : Option Key) (n : ℕ) → is_among ns n ≡ false
              → version_row_of o (Some n) ≡ version_row_of (option_map (with_changed f ns) o) (Some n)
          same_row None n h = refl
          same_row (Some k) n h = ap (option_map version_row) (sym (get-change_versions f (is_among ns) k.versions n
              ∙ ap (λ b. option_map (λ v. if b then f v else v) (fin.get k.versions n)) h
              ∙ still (fin.get k.versions n)))

module _ (forms : Forms) (b : Broker) (sound : SoundSecrets forms b.secrets) (t new : Table)
    (told : Tells of_secrets t b) (laws : KeyLaws) where
  -- the rows are those of the broker with the versions changed
  pub changed_told : (name : Text) → IsSecretName name → (f : Version → Version) (ns : List ℕ)
      → AreChanged f ns name t new
      → Tells of_secrets new (record b { secrets = change b.secrets name (with_changed f ns) })
  changed_told name is_name f ns h = secrets_by new next
      (λ q. h.others kind.KvKey q refl ∙ told kind.KvKey q refl ∙ key_rows b q ∙ key-changed b.secrets name f ns q)
      (λ q. elim (is_key_of ns name q) as (λ v. is_key_of ns name q ≡ v
      → new kind.KvVersion q ≡ at_parts (version_at next.secrets) q) [
        | false ↦ λ apart. h.others kind.KvVersion q apart ∙ told kind.KvVersion q refl ∙ version_rows b q
            ∙ unchanged_at b.secrets name f ns laws q apart
        | true ↦ λ is. let m = key_is_among name ns q is in
            ap (new kind.KvVersion) m.2 ∙ at_key m.0 m.1 (ap (is_key_of ns name) (sym m.2) ∙ is)
            ∙ sym (ap (at_parts (version_at next.secrets)) m.2)
      ] refl)
    where
      next : Broker
      next = record b { secrets = change b.secrets name (with_changed f ns) }

      few : (n : ℕ) (v : Version) → version_of (get next.secrets name) n ≡ Some v → n ≤ greatest_version
      few n v e =
          let x = mapped (λ v. if is_among ns n then f v else v) (version_of (get b.secrets name) n) v
          (sym (versions_after b.secrets name f ns n) ∙ e) in
          small_number forms b sound name n x.0 x.1

      at_key : (m : ℕ) → is_among ns m ≡ true → is_key_of ns name (version_key name m) ≡ true
          → new kind.KvVersion (version_key name m) ≡ at_parts (version_at next.secrets) (version_key name m)
      at_key m among key =
          (h.versions m (version_of (get b.secrets name) m) key
          (has_version forms b sound t told laws name m is_name (h.numbers m among))).row
          ∙ ap (option_map version_row)
          (ap (λ p. option_map (λ v. if p then f v else v) (version_of (get b.secrets name) m)) (sym among)
          ∙ sym (versions_after b.secrets name f ns m))
          ∙ sym (version_row_at laws next.secrets name is_name few m (h.numbers m among))
